-- E21 is told of messages that are too long alone, at the names of their declarations.
use Rattle.std.proofs.Common.{◌≡◌, ◌≤◌, ℕ, ◌+◌, Bool, true, false, ◌||◌, not, List, [], ◌∷◌, ◌++◌, length, Option, Some, None, nat_lt, nat_le, nat_eq, map, refl, sym, ap, ◌∙◌, subst, arith}
use Rattle.std.specs.List.{All, Contains}
use Rattle.std.proofs.lemmas.List.Elements.{All-nil, All-cons, All-head, All-tail, All-append, All-contains}
use Rattle.fl_interface.specs.Types.{TheType, enumeration, structure, fields_from, TheMessage}
use Rattle.fl_interface.specs.Depth.{is_too_big}
use Rattle.fl_check.specs.Known.{is_string, is_capability, is_built_in, Before, stands_for, counted, field_type, messages_of, message_from, after, after_all, nothing_declared, call_name, response_name, ins, outs}
use Rattle.fl_interface.specs.Limits.{is_among}
use Rattle.fl_check.specs.Places.{TextPlace, rule, is_unknown, type_names, message_names, fixed_type_place, plain_type_place, string_place, new_type_place, whole_type_place, count_place, count_places, bound_place, bound_places, listed_place, other_place, member_places, field_place, field_places, argument_names, argument_place, argument_places, some_too_long, whole_message_place, message_name_place, rpc_name_place, arguments_of, declaration_places, places_from}
use Rattle.fl_interface.specs.Limits.{is_too_long}
use Rattle.fl_check.specs.Checks.{IsSound, Fault, first_fault, places}
use Rattle.fl_interface.specs.Limits.{are_arguments_within}
use Rattle.fl_check.specs.TooLong.{name_declared, IsTooLongAt, RefusesTooLong, AcceptsNoneTooLong}
use Rattle.fl_parse.specs.Tree.{TheName, TheNumber, TheField, TheShape, plain, bounded, sized as sized_shape, TheArgument, TheDeclaration, alias_of, typedef_of, enum_of, struct_of, message_of, rpc_of}
use Rattle.fl_check.proofs.FirstFaults.{none_after, fault_prefix}
use Rattle.fl_check.proofs.Firsts.{told, contains_head, contains_tail, contains_none, first_is, all_sound, fault_from}
use Rattle.fl_check.proofs.Limits.{Kept, kept_none, kept_after, all_prefix, all_back, or_left, or_right, arguments_all, all_within, ins_all, outs_all, too_long_sound}

-- ---- all other places tell of other rules

abbrev IsOther : TextPlace → Type 0
IsOther p = All (λ n. n ≤ 20) p.broken

abbrev AllOther : List TextPlace → Type 0
AllOther ps = All IsOther ps

one : (n : ℕ) (a : Bool) → n ≤ 20 → All (λ k. k ≤ 20) (rule n a)
one n true h = All-cons (λ k. k ≤ 20) n [] h (All-nil (λ k. k ≤ 20))
one n false h = All-nil (λ k. k ≤ 20)

two : (n : ℕ) (a : Bool) (m : ℕ) (b : Bool) → n ≤ 20 → m ≤ 20 → All (λ k. k ≤ 20) (rule n a ++ rule m b)
two n a m b g h = All-append (λ k. k ≤ 20) (rule n a) (rule m b) (one n a g) (one m b h)

three : (n : ℕ) (a : Bool) (m : ℕ) (b : Bool) (l : ℕ) (c : Bool) → n ≤ 20 → m ≤ 20 → l ≤ 20 → All (λ k. k ≤ 20) (rule n a ++ (rule m b ++ rule l c))
three n a m b l c g h k = All-append (λ k. k ≤ 20) (rule n a) (rule m b ++ rule l c) (one n a g) (two m b l c h k)

fixed_other : (b : Before) (n : TheName) → IsOther (fixed_type_place b n)
unfolding fixed_type_place
fixed_other b n = three 11 (is_unknown b n.text) 14 (is_capability n.text) 18 (is_string n.text) (omega arith) (omega arith) (omega arith)

plain_other : (b : Before) (n : TheName) → IsOther (plain_type_place b n)
unfolding plain_type_place
plain_other b n = two 11 (is_unknown b n.text) 14 (is_capability n.text) (omega arith) (omega arith)

string_other : (n : TheName) → IsOther (string_place n)
unfolding string_place
string_other n = two 11 (not (is_string n.text || is_capability n.text)) 14 (is_capability n.text) (omega arith) (omega arith)

new_other : (b : Before) (n : TheName) (empty : Bool) → IsOther (new_type_place b n empty)
unfolding new_type_place
new_other b n empty =
    three 10 (is_built_in n.text || is_among (type_names b) n.text) 15 empty 19 (nat_le 256 (length b.types)) (omega arith) (omega arith) (omega arith)

whole_other : (n : TheName) (t : TheType) → IsOther (whole_type_place n t)
unfolding whole_type_place
whole_other n t = one 17 (is_too_big t) (omega arith)

count_other : (n : TheNumber) → IsOther (count_place n)
unfolding count_place
count_other n = one 16 (nat_lt n.value 1 || nat_lt 1024 n.value) (omega arith)

bound_other : (n : TheNumber) → IsOther (bound_place n)
unfolding bound_place
bound_other n = one 20 (nat_lt n.value 1 || nat_lt 4096 n.value) (omega arith)

listed_other : (others : List (List ℕ)) (k : ℕ) (n : TheName) → IsOther (listed_place others k n)
unfolding listed_place
listed_other others k n = two 13 (is_among others n.text) 19 (nat_le 32 k) (omega arith) (omega arith)

name_other : (others : List (List ℕ)) (n : TheName) → IsOther (other_place others n)
unfolding other_place
name_other others n = one 13 (is_among others n.text) (omega arith)

message_other : (b : Before) (n : TheName) → IsOther (message_name_place b n)
unfolding message_name_place
message_other b n = two 12 (is_among (message_names b) n.text) 19 (nat_le 256 (length b.messages)) (omega arith) (omega arith)

rpc_other : (b : Before) (n : TheName) → IsOther (rpc_name_place b n)
unfolding rpc_name_place
rpc_other b n =
    two 12 (is_among (message_names b) (call_name n) || is_among (message_names b) (response_name n))
    19 (nat_le 255 (length b.messages) || nat_lt 55 (length n.text)) (omega arith) (omega arith)

none : AllOther []
none = All-nil IsOther

more : (p : TextPlace) (ps : List TextPlace) → IsOther p → AllOther ps → AllOther (p ∷ ps)
more p ps h t = All-cons IsOther p ps h t

counts_other : (count : Option TheNumber) → AllOther (count_places count)
counts_other None = none
counts_other (Some n) = more (count_place n) [] (count_other n) none

bounds_other : (bound : Option TheNumber) → AllOther (bound_places bound)
bounds_other None = none
bounds_other (Some n) = more (bound_place n) [] (bound_other n) none

members_other : (others : List (List ℕ)) (ms : List TheName) → AllOther (member_places others ms)
members_other others [] = none
members_other others (m ∷ ms) = more (other_place others m) (member_places (others ++ m.text ∷ []) ms) (name_other others m) (members_other (others ++ m.text ∷ []) ms)

field_other : (b : Before) (others : List (List ℕ)) (f : TheField) → AllOther (field_place b others f)
field_other b others f =
    let name = listed_place others (length others) f.name in
    more (fixed_type_place b f.type_name) (name ∷ count_places f.count) (fixed_other b f.type_name)
    (more name (count_places f.count) (listed_other others (length others) f.name) (counts_other f.count))

fields_other : (b : Before) (others : List (List ℕ)) (fs : List TheField) → AllOther (field_places b others fs)
fields_other b others [] = none
fields_other b others (f ∷ fs) =
    let names = others ++ f.name.text ∷ [] in
    All-append IsOther (field_place b others f) (field_places b names fs) (field_other b others f) (fields_other b names fs)

argument_other : (b : Before) (others : List (List ℕ)) (k : ℕ) (kind name : TheName) (s : TheShape) → AllOther (argument_place b others k (record { type_name = kind; name = name; shape = s }))
argument_other b others k kind name plain =
    more (plain_type_place b kind) (listed_place others k name ∷ []) (plain_other b kind)
    (more (listed_place others k name) [] (listed_other others k name) none)
argument_other b others k kind name (bounded bound) =
    more (string_place kind) (listed_place others k name ∷ (bound_place bound ∷ [])) (string_other kind)
    (more (listed_place others k name) (bound_place bound ∷ []) (listed_other others k name)
    (more (bound_place bound) [] (bound_other bound) none))
argument_other b others k kind name (sized_shape len bound) =
    let names = others ++ name.text ∷ [] in
    more (fixed_type_place b kind) (listed_place others k name ∷ (other_place names len ∷ bound_places bound)) (fixed_other b kind)
    (more (listed_place others k name) (other_place names len ∷ bound_places bound) (listed_other others k name)
    (more (other_place names len) (bound_places bound) (name_other names len) (bounds_other bound)))

arguments_other : (b : Before) (others : List (List ℕ)) (k : ℕ) (args : List TheArgument) → AllOther (argument_places b others k args)
arguments_other b others k [] = none
arguments_other b others k (g ∷ args) =
    let names = others ++ argument_names g in
    All-append IsOther (argument_place b others k g) (argument_places b names (k + 1) args)
    (argument_other b others k g.type_name g.name g.shape) (arguments_other b names (k + 1) args)

back : (ps qs : List TextPlace) → AllOther (ps ++ qs) → AllOther qs
back [] qs a = a
back (p ∷ ps) qs a = back ps qs (All-tail IsOther p (ps ++ qs) a)

not_told : (ps : List TextPlace) (at : ℕ) → AllOther ps → first_fault ps ≡ Some (told 21 at) → ⊥
not_told ps at a e =
    let f = first_is ps 21 at e in
    let all = subst AllOther f.stands a in
    let here = All-head IsOther f.here f.rest (back f.prefix (f.here ∷ f.rest) all) in
    let small : 21 ≤ 20 = All-contains (λ n. n ≤ 20) f.here.broken 21 here f.broken in
    omega (arith, small)

-- ---- the whole of a message or an rpc

at_whole : (n : TheName) (t : Bool) (at : ℕ) → first_fault (whole_message_place n t ∷ []) ≡ Some (told 21 at) → (t ≡ true) × (n.at ≡ at)
unfolding whole_message_place first_fault
at_whole n true at e = (refl, let q : told 21 n.at ≡ told 21 at = cc in ap (λ (f : Fault). f.at) q)
at_whole n false at e = absurd cc

record AtEnd (prefix : List TextPlace) (n : TheName) (t : Bool) (at : ℕ) : Type 0 where
  sound : All IsSound prefix
  long : t ≡ true
  place : n.at ≡ at

end_step : (prefix : List TextPlace) (n : TheName) (t : Bool) (at : ℕ) (o : Option Fault) → first_fault prefix ≡ o → AllOther prefix
    → first_fault (prefix ++ whole_message_place n t ∷ []) ≡ Some (told 21 at) → AtEnd prefix n t at
end_step prefix n t at None q a e =
    let w = at_whole n t at (sym (none_after prefix (whole_message_place n t ∷ []) q) ∙ e) in
    record { sound = all_sound prefix q; long = w.0; place = w.1 }
end_step prefix n t at (Some f) q a e = absurd (not_told prefix at a (q ∙ sym (fault_prefix prefix (whole_message_place n t ∷ []) f q) ∙ e))

at_end : (prefix : List TextPlace) (n : TheName) (t : Bool) (at : ℕ) → AllOther prefix → first_fault (prefix ++ whole_message_place n t ∷ []) ≡ Some (told 21 at) → AtEnd prefix n t at
at_end prefix n t at a e = end_step prefix n t at (first_fault prefix) refl a e

-- ---- one of several messages is too long

abbrev HasTypes : TheMessage → Type 0
HasTypes m = are_arguments_within m.args ≡ true

record Long (ms : List TheMessage) : Type 0 where
  message : TheMessage
  declared : Contains ms message
  types : HasTypes message
  long : is_too_long message ≡ true

long_step : (m : TheMessage) (ms : List TheMessage) (t : Bool) → is_too_long m ≡ t → HasTypes m → (some_too_long ms ≡ true → Long ms) → (t || some_too_long ms) ≡ true → Long (m ∷ ms)
long_step m ms true q h later e = record { message = m; declared = contains_head m ms; types = h; long = q }
long_step m ms false q h later e =
    let l = later e in
    record { message = l.message; declared = contains_tail m ms l.message l.declared; types = l.types; long = l.long }

long_among : (ms : List TheMessage) → All HasTypes ms → some_too_long ms ≡ true → Long ms
long_among [] a e = absurd cc
long_among (m ∷ ms) a e =
    long_step m ms (is_too_long m) refl (All-head HasTypes m ms a) (λ f. long_among ms (All-tail HasTypes m ms a) f) e

none_long : (ms : List TheMessage) → some_too_long ms ≡ false → All (λ (m : TheMessage). is_too_long m ≡ false) ms
none_long [] e = All-nil (λ (m : TheMessage). is_too_long m ≡ false)
none_long (m ∷ ms) e =
    All-cons (λ (m : TheMessage). is_too_long m ≡ false) m ms (or_left (is_too_long m) (some_too_long ms) e)
    (none_long ms (or_right (is_too_long m) (some_too_long ms) e))

-- ---- a declaration, and several

here_long : (b : Before) (d : TheDeclaration) (ds : List TheDeclaration) (n : TheName) (at : ℕ) → n.at ≡ at → name_declared d ≡ n → Long (messages_of b d) → IsTooLongAt b (d ∷ ds) at
here_long b d ds n at p q l = record {
  before = [];
  declaration = d;
  rest = ds;
  stands = refl;
  place = ap (λ (x : TheName). x.at) q ∙ p;
  message = l.message;
  declared = l.declared;
  types = l.types;
  long = l.long;
}

in_declaration : (b : Before) (d : TheDeclaration) (ds : List TheDeclaration) (at : ℕ) → Kept b → first_fault (declaration_places b d) ≡ Some (told 21 at) → IsTooLongAt b (d ∷ ds) at
in_declaration b (alias_of new old) ds at k e =
    let last = whole_type_place new (stands_for b old) in
    absurd (not_told (new_type_place b new false ∷ (fixed_type_place b old ∷ (last ∷ []))) at
    (more (new_type_place b new false) (fixed_type_place b old ∷ (last ∷ [])) (new_other b new false)
    (more (fixed_type_place b old) (last ∷ []) (fixed_other b old)
    (more last [] (whole_other new (stands_for b old)) none))) e)
in_declaration b (typedef_of old new count) ds at k e =
    let t = counted count (stands_for b old) in
    let last = whole_type_place new t ∷ [] in
    absurd (not_told (fixed_type_place b old ∷ (new_type_place b new false ∷ (count_places count ++ last))) at
    (more (fixed_type_place b old) (new_type_place b new false ∷ (count_places count ++ last)) (fixed_other b old)
    (more (new_type_place b new false) (count_places count ++ last) (new_other b new false)
    (All-append IsOther (count_places count) last (counts_other count) (more (whole_type_place new t) [] (whole_other new t) none)))) e)
in_declaration b (enum_of members name) ds at k e =
    let t = enumeration (length members) in
    let empty = nat_eq (length members) 0 in
    let last = whole_type_place name t ∷ [] in
    absurd (not_told (member_places [] members ++ (new_type_place b name empty ∷ last)) at
    (All-append IsOther (member_places [] members) (new_type_place b name empty ∷ last) (members_other [] members)
    (more (new_type_place b name empty) last (new_other b name empty) (more (whole_type_place name t) [] (whole_other name t) none))) e)
in_declaration b (struct_of fields name) ds at k e =
    let t = structure (fields_from (map (field_type b) fields)) in
    let empty = nat_eq (length fields) 0 in
    let last = whole_type_place name t ∷ [] in
    absurd (not_told (field_places b [] fields ++ (new_type_place b name empty ∷ last)) at
    (All-append IsOther (field_places b [] fields) (new_type_place b name empty ∷ last) (fields_other b [] fields)
    (more (new_type_place b name empty) last (new_other b name empty) (more (whole_type_place name t) [] (whole_other name t) none))) e)
in_declaration b (message_of kind name args) ds at k e =
    let m = message_from b name.text args in
    let first = message_name_place b name in
    let prefix = first ∷ argument_places b [] 0 args in
    let end = at_end prefix name (some_too_long (m ∷ [])) at (more first (argument_places b [] 0 args) (message_other b name) (arguments_other b [] 0 args)) e in
    let a = arguments_all b [] 0 args k.types (omega arith) (All-tail IsSound first (argument_places b [] 0 args) end.sound) in
    let types = All-cons HasTypes m [] (all_within b args a.0) (All-nil HasTypes) in
    here_long b (message_of kind name args) ds name at end.place refl (long_among (m ∷ []) types end.long)
in_declaration b (rpc_of name args) ds at k e =
    let m1 = message_from b (call_name name) (ins args) in
    let m2 = message_from b (response_name name) (outs args) in
    let all = argument_places b [] 0 (arguments_of args) in
    let first = rpc_name_place b name in
    let end = at_end (first ∷ all) name (some_too_long (m1 ∷ (m2 ∷ []))) at (more first all (rpc_other b name) (arguments_other b [] 0 (arguments_of args))) e in
    let a = arguments_all b [] 0 (arguments_of args) k.types (omega arith) (All-tail IsSound first all end.sound) in
    let one = all_within b (ins args) (ins_all b args a.0).0 in
    let other = all_within b (outs args) (outs_all b args a.0).0 in
    let types = All-cons HasTypes m1 (m2 ∷ []) one (All-cons HasTypes m2 [] other (All-nil HasTypes)) in
    here_long b (rpc_of name args) ds name at end.place refl (long_among (m1 ∷ (m2 ∷ [])) types end.long)

later_long : (b : Before) (d : TheDeclaration) (ds : List TheDeclaration) (at : ℕ) → IsTooLongAt (after b d) ds at → IsTooLongAt b (d ∷ ds) at
later_long b d ds at l = record {
  before = d ∷ l.before;
  declaration = l.declaration;
  rest = l.rest;
  stands = ap (λ (xs : List TheDeclaration). d ∷ xs) l.stands;
  place = l.place;
  message = l.message;
  declared = l.declared;
  types = l.types;
  long = l.long;
}

find_step : (b : Before) (d : TheDeclaration) (ds : List TheDeclaration) (at : ℕ) → Kept b → (o : Option Fault) → first_fault (declaration_places b d) ≡ o
    → (All IsSound (declaration_places b d) → first_fault (places_from (after b d) ds) ≡ Some (told 21 at) → IsTooLongAt (after b d) ds at)
    → first_fault (declaration_places b d ++ places_from (after b d) ds) ≡ Some (told 21 at) → IsTooLongAt b (d ∷ ds) at
find_step b d ds at k None q later e =
    later_long b d ds at (later (all_sound (declaration_places b d) q) (sym (none_after (declaration_places b d) (places_from (after b d) ds) q) ∙ e))
find_step b d ds at k (Some f) q later e =
    in_declaration b d ds at k (q ∙ sym (fault_prefix (declaration_places b d) (places_from (after b d) ds) f q) ∙ e)

find : (b : Before) (ds : List TheDeclaration) (at : ℕ) → Kept b → first_fault (places_from b ds) ≡ Some (told 21 at) → IsTooLongAt b ds at
unfolding first_fault
find b [] at k e = absurd cc
find b (d ∷ ds) at k e = find_step b d ds at k (first_fault (declaration_places b d)) refl (λ s f. find (after b d) ds at (kept_after b d k s) f) e

pub refuses_too_long : RefusesTooLong
refuses_too_long tree at h = find nothing_declared tree.declarations at kept_none (fault_from (places tree) 21 at h)

-- ---- what is accepted

sound_there : (b : Before) (before : List TheDeclaration) (d : TheDeclaration) (rest : List TheDeclaration) → All IsSound (places_from b (before ++ d ∷ rest)) → All IsSound (declaration_places (after_all b before) d)
sound_there b [] d rest s = all_prefix (declaration_places b d) (places_from (after b d) rest) s
sound_there b (x ∷ before) d rest s = sound_there (after b x) before d rest (all_back (declaration_places b x) (places_from (after b x) (before ++ d ∷ rest)) s)

not_long : (ms : List TheMessage) (m : TheMessage) (prefix : List TextPlace) (n : TheName) → All IsSound (prefix ++ whole_message_place n (some_too_long ms) ∷ []) → Contains ms m → is_too_long m ≡ true → ⊥
not_long ms m prefix n s c e =
    let last = whole_message_place n (some_too_long ms) in
    let t = too_long_sound n (some_too_long ms) (All-head IsSound last [] (all_back prefix (last ∷ []) s)) in
    let f : is_too_long m ≡ false = All-contains (λ (m : TheMessage). is_too_long m ≡ false) ms m (none_long ms t) c in
    cc

none_here : (b : Before) (d : TheDeclaration) (m : TheMessage) → All IsSound (declaration_places b d) → Contains (messages_of b d) m → is_too_long m ≡ true → ⊥
none_here b (alias_of new old) m s c e = contains_none m c
none_here b (typedef_of old new count) m s c e = contains_none m c
none_here b (enum_of members name) m s c e = contains_none m c
none_here b (struct_of fields name) m s c e = contains_none m c
none_here b (message_of kind name args) m s c e = not_long (messages_of b (message_of kind name args)) m (message_name_place b name ∷ argument_places b [] 0 args) name s c e
none_here b (rpc_of name args) m s c e = not_long (messages_of b (rpc_of name args)) m (rpc_name_place b name ∷ argument_places b [] 0 (arguments_of args)) name s c e

pub accepts_none_too_long : AcceptsNoneTooLong
accepts_none_too_long tree i at h l =
    let s = subst (λ (ds : List TheDeclaration). All IsSound (places_from nothing_declared ds)) l.stands h.0 in
    none_here (after_all nothing_declared l.before) l.declaration l.message (sound_there nothing_declared l.before l.declaration l.rest s) l.declared l.long
