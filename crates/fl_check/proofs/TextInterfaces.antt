-- What a text's declarations declare: messages whose names are words, and enums of at most 65,535.
use Rattle.std.proofs.Common.{◌≡◌, ℕ, ◌+◌, ◌≤◌, Bool, true, false, ◌||◌, ◌&&◌, List, [], ◌∷◌, ◌++◌, map, length, Option, Some, None, option_map, is_some, unwrap_or, nat_le, nat_lt, refl, ap, ◌∙◌, if◌then◌else◌}
use Rattle.std.specs.List.{All, AllByRecursion, list_all}
use Rattle.std.specs.Str.{bytes_eq}
use Rattle.std.specs.Cmp.{first_so, second_so}
use Rattle.std.proofs.lemmas.Bool.{ltb-false, le-leb}
use Rattle.std.proofs.lemmas.List.Folds.{list_all-append}
use Rattle.std.proofs.lemmas.List.Elements.{All-head}
use Rattle.fl_interface.specs.declared.interface.Scalar.{Scalar as RustScalar}
use Rattle.fl_interface.specs.Interface.{TheType, scalar, enumeration, structure, fields_from, fixed, text, TheMessage}
use Rattle.fl_check.specs.Known.{is_string, scalar_named, Named, Before, declared_as, type_named, message_from, stands_for, counted, field_type, argument_type, after, after_all, nothing_declared, call_name, response_name, ins, outs}
use Rattle.fl_interface.specs.Limits.{is_among}
use Rattle.fl_check.specs.Places.{rule, rpc_name_place, declaration_places, places_from, arguments_of, argument_places, some_too_long, whole_message_place, message_names}
use Rattle.fl_check.specs.Checks.{IsSound}
use Rattle.fl_parse.specs.Tree.{TheName, TheNumber, TheField, TheShape, plain, bounded, sized as sized_shape, TheArgument, TheDeclaration, alias_of, typedef_of, enum_of, struct_of, message_of, rpc_of}
use Rattle.fl_lex.specs.Words.{is_name}
use Rattle.fl_lex.proofs.Classes.{both}
use Rattle.fl_check.specs.Texts.{has_short_enums, have_short_enums, argument_has_short_enums, is_message_spellable, is_spellable, TextsAreSpellable}
use Rattle.fl_check.specs.Checks.{interface_from}
use Rattle.fl_check.proofs.Limits.{or_right, all_prefix, all_back}
use Rattle.fl_check.proofs.TextTrees.{IsSmall, text_is_small}
use Rattle.fl_check.proofs.Names.{call_named, response_named}

-- every type declared has short enums, and every message is spellable
record Kept (b : Before) : Type 0 where
  types : list_all (λ (k : Named). has_short_enums k.type) b.types ≡ true
  messages : list_all is_message_spellable b.messages ≡ true

-- ---- types

declared_short : (ks : List Named) (name : List ℕ) → list_all (λ (k : Named). has_short_enums k.type) ks ≡ true → has_short_enums (unwrap_or (declared_as ks name) (enumeration 0)) ≡ true
declared_short [] name h = refl
declared_short (k ∷ ks) name h =
    by_test (bytes_eq k.name name) (first_so (has_short_enums k.type) (list_all (λ (m : Named). has_short_enums m.type) ks) h)
    (declared_short ks name (second_so (has_short_enums k.type) (list_all (λ (m : Named). has_short_enums m.type) ks) h))
  where
    by_test : (t : Bool) → has_short_enums k.type ≡ true → has_short_enums (unwrap_or (declared_as ks name) (enumeration 0)) ≡ true
        → has_short_enums (unwrap_or (if t then Some k.type else declared_as ks name) (enumeration 0)) ≡ true
    by_test true here more = here
    by_test false here more = more

named_short : (b : Before) (name : List ℕ) → Kept b → has_short_enums (unwrap_or (type_named b name) (enumeration 0)) ≡ true
named_short b name k = by_scalar (scalar_named name)
  where
    by_scalar : (s : Option RustScalar) → has_short_enums (unwrap_or (if is_some s then option_map scalar s else declared_as b.types name) (enumeration 0)) ≡ true
    by_scalar None = declared_short b.types name k.types
    by_scalar (Some s) = refl

counted_short : (count : Option TheNumber) (t : TheType) → has_short_enums t ≡ true → has_short_enums (counted count t) ≡ true
counted_short None t h = h
counted_short (Some count) t h = h

fields_short : (b : Before) (fields : List TheField) → Kept b → have_short_enums (fields_from (map (field_type b) fields)) ≡ true
fields_short b [] k = refl
fields_short b (f ∷ fs) k =
    both (has_short_enums (field_type b f)) (have_short_enums (fields_from (map (field_type b) fs)))
    (counted_short f.count (stands_for b f.type_name) (named_short b f.type_name.text k)) (fields_short b fs k)

argument_short : (b : Before) (a : TheArgument) → Kept b → argument_has_short_enums (argument_type b a) ≡ true
argument_short b a k = by_shape a.shape
  where
    plain_short : (t : Bool) → argument_has_short_enums (if t then text 2047 else fixed (stands_for b a.type_name)) ≡ true
    plain_short true = refl
    plain_short false = named_short b a.type_name.text k

    by_shape : (shape : TheShape) → argument_has_short_enums (argument_type b (record { type_name = a.type_name; name = a.name; shape = shape })) ≡ true
    by_shape plain = plain_short (is_string a.type_name.text)
    by_shape (bounded bound) = refl
    by_shape (sized_shape len bound) = named_short b a.type_name.text k

arguments_short : (b : Before) (args : List TheArgument) → Kept b → list_all argument_has_short_enums (map (argument_type b) args) ≡ true
arguments_short b [] k = refl
arguments_short b (a ∷ args) k =
    both (argument_has_short_enums (argument_type b a)) (list_all argument_has_short_enums (map (argument_type b) args)) (argument_short b a k) (arguments_short b args k)

message_spellable : (b : Before) (name : List ℕ) (args : List TheArgument) → Kept b → is_name name ≡ true → is_message_spellable (message_from b name args) ≡ true
message_spellable b name args k h = both (is_name name) (list_all argument_has_short_enums (map (argument_type b) args)) h (arguments_short b args k)

-- ---- the two names of an rpc

not_broken : (n : ℕ) (b : Bool) → rule n b ≡ [] → b ≡ false
not_broken n true e = absurd cc
not_broken n false e = refl

nil_right : (xs ys : List ℕ) → xs ++ ys ≡ [] → ys ≡ []
nil_right [] ys e = e
nil_right (x ∷ xs) ys e = absurd cc

rpc_name_short : (b : Before) (n : TheName) → IsSound (rpc_name_place b n) → length n.text ≤ 55
unfolding rpc_name_place
rpc_name_short b n e =
    let taken = is_among (message_names b) (call_name n) || is_among (message_names b) (response_name n) in
    let many = nat_le 255 (length b.messages) in
    let long = nat_lt 55 (length n.text) in
    ltb-false 55 (length n.text) (or_right many long (not_broken 19 (many || long) (nil_right (rule 12 taken) (rule 19 (many || long)) e)))

-- ---- declarations

one_more : {A : Type 0} (p : A → Bool) (xs ys : List A) → list_all p xs ≡ true → list_all p ys ≡ true → list_all p (xs ++ ys) ≡ true
one_more p xs ys h g = list_all-append p xs ys ∙ both (list_all p xs) (list_all p ys) h g

with_type : (b : Before) (name : List ℕ) (t : TheType) → Kept b → has_short_enums t ≡ true → Kept (record { types = b.types ++ record { name = name; type = t } ∷ []; messages = b.messages ++ [] })
with_type b name t k h = record {
  types = one_more (λ (m : Named). has_short_enums m.type) b.types (record { name = name; type = t } ∷ []) k.types (both (has_short_enums t) true h refl);
  messages = one_more is_message_spellable b.messages [] k.messages refl;
}

with_messages : (b : Before) (ms : List TheMessage) → Kept b → list_all is_message_spellable ms ≡ true → Kept (record { types = b.types ++ []; messages = b.messages ++ ms })
with_messages b ms k h = record {
  types = one_more (λ (m : Named). has_short_enums m.type) b.types [] k.types refl;
  messages = one_more is_message_spellable b.messages ms k.messages h;
}

kept_after : (b : Before) (d : TheDeclaration) → Kept b → IsSmall d → All IsSound (declaration_places b d) → Kept (after b d)
kept_after b (alias_of new old) k h s = with_type b new.text (stands_for b old) k (named_short b old.text k)
kept_after b (typedef_of old new count) k h s =
    with_type b new.text (counted count (stands_for b old)) k (counted_short count (stands_for b old) (named_short b old.text k))
kept_after b (enum_of members name) k h s = with_type b name.text (enumeration (length members)) k (le-leb (length members) 65535 h)
kept_after b (struct_of fields name) k h s = with_type b name.text (structure (fields_from (map (field_type b) fields))) k (fields_short b fields k)
kept_after b (message_of kind name args) k h s =
    with_messages b (message_from b name.text args ∷ []) k (both (is_message_spellable (message_from b name.text args)) true (message_spellable b name.text args k h) refl)
kept_after b (rpc_of name args) k h s =
    let m1 = message_from b (call_name name) (ins args) in
    let m2 = message_from b (response_name name) (outs args) in
    let few = rpc_name_short b name (All-head IsSound (rpc_name_place b name) (argument_places b [] 0 (arguments_of args) ++ whole_message_place name (some_too_long (m1 ∷ (m2 ∷ []))) ∷ []) s) in
    let first = message_spellable b (call_name name) (ins args) k (call_named name h few) in
    let second = message_spellable b (response_name name) (outs args) k (response_named name h few) in
    with_messages b (m1 ∷ (m2 ∷ [])) k (both (is_message_spellable m1) (is_message_spellable m2 && true) first (both (is_message_spellable m2) true second refl))

kept_all : (b : Before) (ds : List TheDeclaration) → Kept b → AllByRecursion IsSmall ds → All IsSound (places_from b ds) → Kept (after_all b ds)
kept_all b [] k h s = k
kept_all b (d ∷ ds) k h s =
    kept_all (after b d) ds (kept_after b d k h.0 (all_prefix (declaration_places b d) (places_from (after b d) ds) s)) h.1
    (all_back (declaration_places b d) (places_from (after b d) ds) s)

-- the messages that declarations declare are spellable
pub messages_spellable : (ds : List TheDeclaration) → AllByRecursion IsSmall ds → All IsSound (places_from nothing_declared ds) → list_all is_message_spellable (after_all nothing_declared ds).messages ≡ true
messages_spellable ds h s = (kept_all nothing_declared ds (record { types = refl; messages = refl }) h s).messages

pub texts_are_spellable : TextsAreSpellable
texts_are_spellable bytes i s =
    let small = text_is_small bytes s.tokens s.tree s.spells s.derives in
    let x = interface_from s.tree in
    let spelled = messages_spellable s.tree.declarations small.declarations s.checks.0 in
    ap is_spellable s.checks.1 ∙ both (is_name x.name) (list_all is_message_spellable x.messages) small.name spelled
