-- A tree at which no rule is broken stands for an interface within the limits.
use Rattle.std.proofs.Common.{◌≡◌, ◌≤◌, ◌<◌, ℕ, ◌+◌, Bool, true, false, ◌||◌, ◌&&◌, not, List, [], ◌∷◌, ◌++◌, map, length, Option, Some, None, option_map, is_some, unwrap_or, nat_le, nat_lt, nat_eq, codes, refl, sym, ap, ◌∙◌, subst, arith, append_assoc, append-nil, length-append, if◌then◌else◌}
use Rattle.std.specs.Cmp.{first_so, second_so}
use Rattle.std.proofs.lemmas.Bool.{leb-false, ltb-false, le-leb, eqb-false}
use Rattle.std.proofs.lemmas.Slice.Eq.{bytes_eq-Decides}
use Rattle.std.proofs.lemmas.List.{length_push, length-map, map-append}
use Rattle.fl_interface.specs.declared.interface.Scalar.{Scalar as RustScalar}
use Rattle.fl_interface.specs.declared.interface.Scalar.TheVariants.{Uint8}
use Rattle.fl_parse.specs.declared.tree.Direction.{Direction}
use Rattle.fl_parse.specs.declared.tree.Direction.TheVariants.{In, Out}
use Rattle.fl_interface.specs.Depth.{is_too_big}
use Rattle.std.specs.List.{All}
use Rattle.std.specs.Str.{bytes_eq}
use Rattle.std.proofs.lemmas.List.Elements.{All-nil, All-cons, All-head, All-tail, All-push}
use Rattle.fl_interface.specs.Interface.{TheType, scalar, enumeration, structure, fields_from, fixed, text, TheMessage, TheInterface}
use Rattle.fl_check.specs.Known.{is_string, is_capability, is_built_in, scalar_named, Named, Before, declared_as, type_named, bound_or, message_from, stands_for, counted, field_type, argument_type, after, after_all, nothing_declared, call_name, response_name, ins, outs, if_in, if_out}
use Rattle.fl_interface.specs.Limits.{is_among}
use Rattle.fl_check.specs.Places.{TextPlace, rule, fixed_type_place, plain_type_place, string_place, new_type_place, whole_type_place, count_place, count_places, bound_place, bound_places, listed_place, other_place, member_places, field_place, field_places, argument_place, argument_places, whole_message_place, message_name_place, rpc_name_place, declaration_places, places_from, arguments_of, argument_names, some_too_long, type_names, is_unknown, message_names}
use Rattle.fl_interface.specs.Limits.{is_too_long}
use Rattle.fl_check.specs.Checks.{IsSound, interface_from, places, first_fault, Checks, checked}
use Rattle.fl_interface.specs.Limits.{is_well_made, are_well_made, is_type_within, is_argument_within, are_arguments_within, is_message_within, are_messages_within, are_distinct, is_within_limits, count_of}
use Rattle.fl_check.proofs.Firsts.{all_sound}
use Rattle.fl_parse.specs.Tree.{TheName, TheNumber, TheField, TheShape, plain, bounded, sized as sized_shape, TheArgument, TheDirected, TheDeclaration, alias_of, typedef_of, enum_of, struct_of, message_of, rpc_of, TheTree}

-- ---- tests

not_broken : (n : ℕ) (b : Bool) → rule n b ≡ [] → b ≡ false
not_broken n true e = cc
not_broken n false e = refl

nil_left : (xs ys : List ℕ) → xs ++ ys ≡ [] → xs ≡ []
nil_left [] ys e = refl
nil_left (x ∷ xs) ys e = cc

nil_right : (xs ys : List ℕ) → xs ++ ys ≡ [] → ys ≡ []
nil_right [] ys e = e
nil_right (x ∷ xs) ys e = cc

both : (a b : Bool) → a ≡ true → b ≡ true → (a && b) ≡ true
both true b p q = q
both false b p q = cc

pub or_left : (a b : Bool) → (a || b) ≡ false → a ≡ false
or_left true b e = cc
or_left false b e = refl

pub or_right : (a b : Bool) → (a || b) ≡ false → b ≡ false
or_right true b e = cc
or_right false b e = e

not_true : (a : Bool) → a ≡ false → not a ≡ true
not_true a e = ap not e

-- ---- all places of a list

pub all_prefix : (ps qs : List TextPlace) → All IsSound (ps ++ qs) → All IsSound ps
all_prefix [] qs a = All-nil IsSound
all_prefix (p ∷ ps) qs a = All-cons IsSound p ps (All-head IsSound p (ps ++ qs) a) (all_prefix ps qs (All-tail IsSound p (ps ++ qs) a))

pub all_back : (ps qs : List TextPlace) → All IsSound (ps ++ qs) → All IsSound qs
all_back [] qs a = a
all_back (p ∷ ps) qs a = all_back ps qs (All-tail IsSound p (ps ++ qs) a)

-- ---- types by their names

abbrev IsWithin : TheType → Type 0
IsWithin t = is_well_made t ≡ true

abbrev pub AllWithin : List Named → Type 0
AllWithin ks = All (λ (k : Named). is_type_within k.type ≡ true) ks

declared_step : (k : Named) (r : Option TheType) (t : TheType) (b : Bool) → is_type_within k.type ≡ true → (r ≡ Some t → is_type_within t ≡ true) → (if b then Some k.type else r) ≡ Some t → is_type_within t ≡ true
declared_step k r t true h ih e = let q : k.type ≡ t = cc in subst (λ x. is_type_within x ≡ true) q h
declared_step k r t false h ih e = ih e

declared_within : (ks : List Named) (name : List ℕ) (t : TheType) → AllWithin ks → declared_as ks name ≡ Some t → is_type_within t ≡ true
declared_within [] name t a e = cc
declared_within (k ∷ ks) name t a e =
    declared_step k (declared_as ks name) t (bytes_eq k.name name) (All-head (λ (k : Named). is_type_within k.type ≡ true) k ks a)
    (λ h. declared_within ks name t (All-tail (λ (k : Named). is_type_within k.type ≡ true) k ks a) h) e

scalar_within : (s : RustScalar) → is_type_within (scalar s) ≡ true
scalar_within Uint8 = refl
scalar_within _ = refl

named_step : (o : Option RustScalar) (r : Option TheType) (t : TheType) → (r ≡ Some t → is_type_within t ≡ true) → (if is_some o then option_map scalar o else r) ≡ Some t → is_type_within t ≡ true
named_step None r t ih e = ih e
named_step (Some s) r t ih e = let q : scalar s ≡ t = cc in subst (λ x. is_type_within x ≡ true) q (scalar_within s)

named_within : (b : Before) (name : List ℕ) (t : TheType) → AllWithin b.types → type_named b name ≡ Some t → is_type_within t ≡ true
named_within b name t a e = named_step (scalar_named name) (declared_as b.types name) t (λ h. declared_within b.types name t a h) e

stands_step : (o : Option TheType) (s c : Bool) → ((t : TheType) → o ≡ Some t → is_type_within t ≡ true) → not (is_some o || (s || c)) ≡ false → s ≡ false → c ≡ false → is_type_within (unwrap_or o (enumeration 0)) ≡ true
stands_step (Some t) s c ih e p q = ih t refl
stands_step None true c ih e p q = cc
stands_step None false true ih e p q = cc
stands_step None false false ih e p q = cc

stands_within : (b : Before) (n : TheName) → AllWithin b.types → is_unknown b n.text ≡ false → is_string n.text ≡ false → is_capability n.text ≡ false → is_type_within (stands_for b n) ≡ true
stands_within b n a u s c = stands_step (type_named b n.text) (is_string n.text) (is_capability n.text) (λ t e. named_within b n.text t a e) u s c

fixed_within : (b : Before) (n : TheName) → AllWithin b.types → IsSound (fixed_type_place b n) → is_type_within (stands_for b n) ≡ true
unfolding fixed_type_place
fixed_within b n a e =
    let u = is_unknown b n.text in
    let c = is_capability n.text in
    let s = is_string n.text in
    let r = nil_right (rule 11 u) (rule 14 c ++ rule 18 s) e in
    stands_within b n a (not_broken 11 u (nil_left (rule 11 u) (rule 14 c ++ rule 18 s) e)) (not_broken 18 s (nil_right (rule 14 c) (rule 18 s) r)) (not_broken 14 c (nil_left (rule 14 c) (rule 18 s) r))

well : (t : TheType) → is_type_within t ≡ true → is_well_made t ≡ true
well t e = first_so (is_well_made t) (not (is_too_big t)) e

from_whole : (n : TheName) (t : TheType) → is_well_made t ≡ true → IsSound (whole_type_place n t) → is_type_within t ≡ true
unfolding whole_type_place
from_whole n t w e = both (is_well_made t) (not (is_too_big t)) w (not_true (is_too_big t) (not_broken 17 (is_too_big t) e))

-- ---- counts and bounds

in_range : (v low high : ℕ) → (nat_lt v low || nat_lt high v) ≡ false → (low ≤ v) × (v ≤ high)
in_range v low high e = (ltb-false v low (or_left (nat_lt v low) (nat_lt high v) e), ltb-false high v (or_right (nat_lt v low) (nat_lt high v) e))

count_range : (n : TheNumber) → IsSound (count_place n) → (1 ≤ n.value) × (n.value ≤ 1024)
unfolding count_place
count_range n e = in_range n.value 1 1024 (not_broken 16 (nat_lt n.value 1 || nat_lt 1024 n.value) e)

bound_range : (n : TheNumber) → IsSound (bound_place n) → (1 ≤ n.value) × (n.value ≤ 4096)
unfolding bound_place
bound_range n e = in_range n.value 1 4096 (not_broken 20 (nat_lt n.value 1 || nat_lt 4096 n.value) e)

counted_well : (count : Option TheNumber) (t : TheType) → is_well_made t ≡ true → All IsSound (count_places count) → is_well_made (counted count t) ≡ true
counted_well None t w a = w
counted_well (Some n) t w a =
    let r = count_range n (All-head IsSound (count_place n) [] a) in
    both (nat_le 1 n.value) (nat_le n.value 1024 && is_well_made t) (le-leb 1 n.value r.0) (both (nat_le n.value 1024) (is_well_made t) (le-leb n.value 1024 r.1) w)

bound_or_range : (bound : Option TheNumber) → All IsSound (bound_places bound) → (1 ≤ bound_or 1024 bound) × (bound_or 1024 bound ≤ 4096)
bound_or_range None a = (omega arith, omega arith)
bound_or_range (Some n) a = bound_range n (All-head IsSound (bound_place n) [] a)

-- ---- structs

listed_few : (others : List (List ℕ)) (k : ℕ) (n : TheName) → IsSound (listed_place others k n) → k < 32
unfolding listed_place
listed_few others k n e = leb-false 32 k (not_broken 19 (nat_le 32 k) (nil_right (rule 13 (is_among others n.text)) (rule 19 (nat_le 32 k)) e))

counts : (ts : List TheType) → count_of (fields_from ts) ≡ length ts
counts [] = refl
counts (t ∷ ts) = omega (arith, counts ts)

fields_within : (b : Before) (others : List (List ℕ)) (fs : List TheField) → AllWithin b.types → length others ≤ 32 → All IsSound (field_places b others fs) → (are_well_made (fields_from (map (field_type b) fs)) ≡ true) × (length others + length fs ≤ 32)
fields_within b others [] a few s = (refl, omega arith)
fields_within b others (f ∷ fs) a few s =
    let rest = field_places b (others ++ f.name.text ∷ []) fs in
    let here = all_prefix (field_place b others f) rest s in
    let one = All-head IsSound (fixed_type_place b f.type_name) (listed_place others (length others) f.name ∷ count_places f.count) here in
    let two = All-tail IsSound (fixed_type_place b f.type_name) (listed_place others (length others) f.name ∷ count_places f.count) here in
    let k = listed_few others (length others) f.name (All-head IsSound (listed_place others (length others) f.name) (count_places f.count) two) in
    let cs = All-tail IsSound (listed_place others (length others) f.name) (count_places f.count) two in
    let l = length_push others f.name.text in
    let ih = fields_within b (others ++ f.name.text ∷ []) fs a (omega arith) (all_back (field_place b others f) rest s) in (
      both (is_well_made (field_type b f)) (are_well_made (fields_from (map (field_type b) fs))) (counted_well f.count (stands_for b f.type_name) (well (stands_for b f.type_name) (fixed_within b f.type_name a one)) cs) ih.0,
      omega (arith, ih.1),
    )

-- ---- arguments

plain_step : (b : Before) (n : TheName) (s : Bool) → (s ≡ false → is_type_within (stands_for b n) ≡ true) → is_argument_within (if s then text 2047 else fixed (stands_for b n)) ≡ true
plain_step b n true h = refl
plain_step b n false h = h refl

plain_within : (b : Before) (n : TheName) → AllWithin b.types → IsSound (plain_type_place b n) → is_argument_within (if is_string n.text then text 2047 else fixed (stands_for b n)) ≡ true
unfolding plain_type_place
plain_within b n a e =
    let u = is_unknown b n.text in
    let c = is_capability n.text in
    plain_step b n (is_string n.text) (λ s. stands_within b n a (not_broken 11 u (nil_left (rule 11 u) (rule 14 c) e)) s (not_broken 14 c (nil_right (rule 11 u) (rule 14 c) e)))

shape_within : (b : Before) (others : List (List ℕ)) (k : ℕ) (kind name : TheName) (s : TheShape) → AllWithin b.types → All IsSound (argument_place b others k (record { type_name = kind; name = name; shape = s })) → (is_argument_within (argument_type b (record { type_name = kind; name = name; shape = s })) ≡ true) × (k < 32)
shape_within b others k kind name plain a s = (
  plain_within b kind a (All-head IsSound (plain_type_place b kind) (listed_place others k name ∷ []) s),
  listed_few others k name (All-head IsSound (listed_place others k name) [] (All-tail IsSound (plain_type_place b kind) (listed_place others k name ∷ []) s)),
)
shape_within b others k kind name (bounded bound) a s =
    let two = All-tail IsSound (string_place kind) (listed_place others k name ∷ (bound_place bound ∷ [])) s in
    let r = bound_range bound (All-head IsSound (bound_place bound) [] (All-tail IsSound (listed_place others k name) (bound_place bound ∷ []) two)) in (
      both (nat_le 1 bound.value) (nat_le bound.value 4096) (le-leb 1 bound.value r.0) (le-leb bound.value 4096 r.1),
      listed_few others k name (All-head IsSound (listed_place others k name) (bound_place bound ∷ []) two),
    )
shape_within b others k kind name (sized_shape len bound) a s =
    let more = other_place (others ++ name.text ∷ []) len ∷ bound_places bound in
    let two = All-tail IsSound (fixed_type_place b kind) (listed_place others k name ∷ more) s in
    let three = All-tail IsSound (listed_place others k name) more two in
    let r = bound_or_range bound (All-tail IsSound (other_place (others ++ name.text ∷ []) len) (bound_places bound) three) in
    let n = bound_or 1024 bound in
    let t = stands_for b kind in (
      both (nat_le 1 n) (nat_le n 4096 && is_type_within t) (le-leb 1 n r.0) (both (nat_le n 4096) (is_type_within t) (le-leb n 4096 r.1) (fixed_within b kind a (All-head IsSound (fixed_type_place b kind) (listed_place others k name ∷ more) s))),
      listed_few others k name (All-head IsSound (listed_place others k name) more two),
    )

-- an argument's type is within the limits
abbrev pub ArgumentWithin : Before → TheArgument → Type 0
ArgumentWithin b a = is_argument_within (argument_type b a) ≡ true

pub arguments_all : (b : Before) (others : List (List ℕ)) (k : ℕ) (args : List TheArgument) → AllWithin b.types → k ≤ 32 → All IsSound (argument_places b others k args) → All (ArgumentWithin b) args × (k + length args ≤ 32)
arguments_all b others k [] a few s = (All-nil (ArgumentWithin b), omega arith)
arguments_all b others k (g ∷ args) a few s =
    let rest = argument_places b (others ++ argument_names g) (k + 1) args in
    let h = shape_within b others k g.type_name g.name g.shape a (all_prefix (argument_place b others k g) rest s) in
    let ih = arguments_all b (others ++ argument_names g) (k + 1) args a (omega (arith, h.1)) (all_back (argument_place b others k g) rest s) in
    (All-cons (ArgumentWithin b) g args h.0 ih.0, omega (arith, ih.1))

pub all_within : (b : Before) (args : List TheArgument) → All (ArgumentWithin b) args → are_arguments_within (map (argument_type b) args) ≡ true
all_within b [] a = refl
all_within b (g ∷ args) a =
    both (is_argument_within (argument_type b g)) (are_arguments_within (map (argument_type b) args)) (All-head (ArgumentWithin b) g args a) (all_within b args (All-tail (ArgumentWithin b) g args a))

in_half : (b : Before) (dir : Direction) (g : TheArgument) (rest : List TheArgument) (n : ℕ) → ArgumentWithin b g → All (ArgumentWithin b) rest → length rest ≤ n → All (ArgumentWithin b) (if_in dir g ++ rest) × (length (if_in dir g ++ rest) ≤ n + 1)
in_half b In g rest n h a l = (All-cons (ArgumentWithin b) g rest h a, omega arith)
in_half b Out g rest n h a l = (a, omega arith)

out_half : (b : Before) (dir : Direction) (g : TheArgument) (rest : List TheArgument) (n : ℕ) → ArgumentWithin b g → All (ArgumentWithin b) rest → length rest ≤ n → All (ArgumentWithin b) (if_out dir g ++ rest) × (length (if_out dir g ++ rest) ≤ n + 1)
out_half b Out g rest n h a l = (All-cons (ArgumentWithin b) g rest h a, omega arith)
out_half b In g rest n h a l = (a, omega arith)

pub ins_all : (b : Before) (ds : List TheDirected) → All (ArgumentWithin b) (arguments_of ds) → All (ArgumentWithin b) (ins ds) × (length (ins ds) ≤ length (arguments_of ds))
ins_all b [] a = (a, omega arith)
ins_all b (d ∷ ds) a =
    let ih = ins_all b ds (All-tail (ArgumentWithin b) d.argument (arguments_of ds) a) in
    let h = in_half b d.direction d.argument (ins ds) (length (arguments_of ds)) (All-head (ArgumentWithin b) d.argument (arguments_of ds) a) ih.0 ih.1 in
    (h.0, omega (arith, h.1))

pub outs_all : (b : Before) (ds : List TheDirected) → All (ArgumentWithin b) (arguments_of ds) → All (ArgumentWithin b) (outs ds) × (length (outs ds) ≤ length (arguments_of ds))
outs_all b [] a = (a, omega arith)
outs_all b (d ∷ ds) a =
    let ih = outs_all b ds (All-tail (ArgumentWithin b) d.argument (arguments_of ds) a) in
    let h = out_half b d.direction d.argument (outs ds) (length (arguments_of ds)) (All-head (ArgumentWithin b) d.argument (arguments_of ds) a) ih.0 ih.1 in
    (h.0, omega (arith, h.1))

message_within : (b : Before) (name : List ℕ) (args : List TheArgument) → All (ArgumentWithin b) args → length args ≤ 32 → is_too_long (message_from b name args) ≡ false → is_message_within (message_from b name args) ≡ true
message_within b name args a few t =
    let m = message_from b name args in
    let l = length-map args (argument_type b) in
    both (nat_le (length m.args) 32) (are_arguments_within m.args && not (is_too_long m)) (le-leb (length m.args) 32 (omega arith))
    (both (are_arguments_within m.args) (not (is_too_long m)) (all_within b args a) (not_true (is_too_long m) t))

-- ---- names of messages

differ : (a b : List ℕ) (r : Bool) → r ≡ bytes_eq b a → bytes_eq a b ≡ false → r ≡ false
differ a b false q e = refl
differ a b true q e =
    let s = (bytes_eq-Decides b a).0 (sym q) in
    let t = (bytes_eq-Decides a b).1 (sym s) in cc

pub among_push : (xs : List (List ℕ)) (n x : List ℕ) → is_among xs x ≡ false → bytes_eq n x ≡ false → is_among (xs ++ n ∷ []) x ≡ false
among_push [] n x e h = ap (λ v. v || false) h
among_push (y ∷ xs) n x e h =
    let p = or_left (bytes_eq y x) (is_among xs x) e in
    let q = among_push xs n x (or_right (bytes_eq y x) (is_among xs x) e) h in
    ap (λ v. v || is_among (xs ++ n ∷ []) x) p ∙ q

not_false : (a : Bool) → not a ≡ true → a ≡ false
not_false true e = cc
not_false false e = refl

distinct_push : (xs : List (List ℕ)) (n : List ℕ) → are_distinct xs ≡ true → is_among xs n ≡ false → are_distinct (xs ++ n ∷ []) ≡ true
distinct_push [] n d e = refl
distinct_push (x ∷ xs) n d e =
    let h = not_false (is_among xs x) (first_so (not (is_among xs x)) (are_distinct xs) d) in
    let k = differ x n (bytes_eq n x) refl (or_left (bytes_eq x n) (is_among xs n) e) in
    both (not (is_among (xs ++ n ∷ []) x)) (are_distinct (xs ++ n ∷ [])) (not_true (is_among (xs ++ n ∷ []) x) (among_push xs n x h k))
    (distinct_push xs n (second_so (not (is_among xs x)) (are_distinct xs) d) (or_right (bytes_eq x n) (is_among xs n) e))

within_append : (ms ns : List TheMessage) → are_messages_within ms ≡ true → are_messages_within ns ≡ true → are_messages_within (ms ++ ns) ≡ true
within_append [] ns a b = b
within_append (m ∷ ms) ns a b =
    both (is_message_within m) (are_messages_within (ms ++ ns)) (first_so (is_message_within m) (are_messages_within ms) a)
    (within_append ms ns (second_so (is_message_within m) (are_messages_within ms) a) b)

-- ---- what is declared keeps the limits

abbrev name_list : List TheMessage → List (List ℕ)
name_list ms = map (λ (m : TheMessage). m.name) ms

pub record Kept (b : Before) : Type 0 where
  pub types : AllWithin b.types
  messages : are_messages_within b.messages ≡ true
  distinct : are_distinct (name_list b.messages) ≡ true
  few : length b.messages ≤ 256

kept_type : (b : Before) (n : List ℕ) (t : TheType) → Kept b → is_type_within t ≡ true → Kept (record { types = b.types ++ record { name = n; type = t } ∷ []; messages = b.messages ++ [] })
kept_type b n t k w =
    let e = append-nil b.messages in
    record {
      types = All-push (λ (k : Named). is_type_within k.type ≡ true) b.types (record { name = n; type = t }) k.types w;
      messages = subst (λ l. are_messages_within l ≡ true) (sym e) k.messages;
      distinct = subst (λ l. are_distinct (name_list l) ≡ true) (sym e) k.distinct;
      few = subst (λ (l : List TheMessage). length l ≤ 256) (sym e) k.few;
    }

kept_messages : (b : Before) (ms : List TheMessage) → Kept b → are_messages_within ms ≡ true → are_distinct (name_list b.messages ++ name_list ms) ≡ true → length b.messages + length ms ≤ 256 → Kept (record { types = b.types ++ []; messages = b.messages ++ ms })
kept_messages b ms k w d few = record {
  types = subst AllWithin (sym (append-nil b.types)) k.types;
  messages = within_append b.messages ms k.messages w;
  distinct = subst (λ l. are_distinct l ≡ true) (sym (map-append (λ (m : TheMessage). m.name) b.messages ms)) d;
  few = omega (arith, length-append {A = TheMessage});
}

new_sound : (b : Before) (n : TheName) (empty : Bool) → IsSound (new_type_place b n empty) → empty ≡ false
unfolding new_type_place
new_sound b n empty e =
    let one = is_built_in n.text || is_among (type_names b) n.text in
    let three = nat_le 256 (length b.types) in
    not_broken 15 empty (nil_left (rule 15 empty) (rule 19 three) (nil_right (rule 10 one) (rule 15 empty ++ rule 19 three) e))

some : (n : ℕ) → nat_eq n 0 ≡ false → 1 ≤ n
some n e = let h = eqb-false n 0 e in omega arith

message_name_sound : (b : Before) (n : TheName) → IsSound (message_name_place b n) → (is_among (name_list b.messages) n.text ≡ false) × (length b.messages < 256)
unfolding message_name_place
message_name_sound b n e =
    let one = is_among (message_names b) n.text in
    let two = nat_le 256 (length b.messages) in
    (not_broken 12 one (nil_left (rule 12 one) (rule 19 two) e), leb-false 256 (length b.messages) (not_broken 19 two (nil_right (rule 12 one) (rule 19 two) e)))

rpc_name_sound : (b : Before) (n : TheName) → IsSound (rpc_name_place b n) → (is_among (name_list b.messages) (call_name n) ≡ false) × (is_among (name_list b.messages) (response_name n) ≡ false) × (length b.messages < 255)
unfolding rpc_name_place
rpc_name_sound b n e =
    let call = is_among (message_names b) (call_name n) in
    let response = is_among (message_names b) (response_name n) in
    let many = nat_le 255 (length b.messages) in
    let long = nat_lt 55 (length n.text) in
    let one = not_broken 12 (call || response) (nil_left (rule 12 (call || response)) (rule 19 (many || long)) e) in
    let two = not_broken 19 (many || long) (nil_right (rule 12 (call || response)) (rule 19 (many || long)) e) in
    (or_left call response one, or_right call response one, leb-false 255 (length b.messages) (or_left many long two))

pub too_long_sound : (n : TheName) (t : Bool) → IsSound (whole_message_place n t) → t ≡ false
unfolding whole_message_place
too_long_sound n t e = not_broken 21 t e

-- the two names of an rpc differ
pub other_name : (n : TheName) (r : Bool) → r ≡ bytes_eq (call_name n) (response_name n) → r ≡ false
other_name n false q = refl
other_name n true q =
    let e = (bytes_eq-Decides (call_name n) (response_name n)).0 (sym q) in
    let l = ap length e in
    absurd (omega (arith, l, length-append {A = ℕ} n.text (codes "_call"), length-append {A = ℕ} n.text (codes "_response")))

two_distinct : (xs : List (List ℕ)) (n m : List ℕ) → are_distinct xs ≡ true → is_among xs n ≡ false → is_among xs m ≡ false → bytes_eq n m ≡ false → are_distinct (xs ++ (n ∷ (m ∷ []))) ≡ true
two_distinct xs n m d p q h =
    subst (λ l. are_distinct l ≡ true) (append_assoc xs (n ∷ []) (m ∷ []))
    (distinct_push (xs ++ n ∷ []) m (distinct_push xs n d p) (among_push xs n m q h))

pub kept_after : (b : Before) (d : TheDeclaration) → Kept b → All IsSound (declaration_places b d) → Kept (after b d)
kept_after b (alias_of new old) k s =
    let p1 = new_type_place b new false in
    let p2 = fixed_type_place b old in
    let p3 = whole_type_place new (stands_for b old) in
    kept_type b new.text (stands_for b old) k (fixed_within b old k.types (All-head IsSound p2 (p3 ∷ []) (All-tail IsSound p1 (p2 ∷ (p3 ∷ [])) s)))
kept_after b (typedef_of old new count) k s =
    let p1 = fixed_type_place b old in
    let p2 = new_type_place b new false in
    let t = counted count (stands_for b old) in
    let p3 = whole_type_place new t in
    let one = All-tail IsSound p1 (p2 ∷ (count_places count ++ p3 ∷ [])) s in
    let two = All-tail IsSound p2 (count_places count ++ p3 ∷ []) one in
    let w = well (stands_for b old) (fixed_within b old k.types (All-head IsSound p1 (p2 ∷ (count_places count ++ p3 ∷ [])) s)) in
    kept_type b new.text t k
    (from_whole new t (counted_well count (stands_for b old) w (all_prefix (count_places count) (p3 ∷ []) two))
    (All-head IsSound p3 [] (all_back (count_places count) (p3 ∷ []) two)))
kept_after b (enum_of members name) k s =
    let p1 = new_type_place b name (nat_eq (length members) 0) in
    let t = enumeration (length members) in
    let p2 = whole_type_place name t in
    let r = all_back (member_places [] members) (p1 ∷ (p2 ∷ [])) s in
    let e = new_sound b name (nat_eq (length members) 0) (All-head IsSound p1 (p2 ∷ []) r) in
    kept_type b name.text t k (from_whole name t (le-leb 1 (length members) (some (length members) e)) (All-head IsSound p2 [] (All-tail IsSound p1 (p2 ∷ []) r)))
kept_after b (struct_of fields name) k s =
    let p1 = new_type_place b name (nat_eq (length fields) 0) in
    let ts = map (field_type b) fields in
    let t = structure (fields_from ts) in
    let p2 = whole_type_place name t in
    let r = all_back (field_places b [] fields) (p1 ∷ (p2 ∷ [])) s in
    let e = some (length fields) (new_sound b name (nat_eq (length fields) 0) (All-head IsSound p1 (p2 ∷ []) r)) in
    let f = fields_within b [] fields k.types (omega arith) (all_prefix (field_places b [] fields) (p1 ∷ (p2 ∷ [])) s) in
    let n = counts ts in
    let l = length-map fields (field_type b) in
    kept_type b name.text t k
    (from_whole name t
    (both (nat_le 1 (count_of (fields_from ts))) (nat_le (count_of (fields_from ts)) 32 && are_well_made (fields_from ts)) (le-leb 1 (count_of (fields_from ts)) (omega arith))
    (both (nat_le (count_of (fields_from ts)) 32) (are_well_made (fields_from ts)) (le-leb (count_of (fields_from ts)) 32 (omega (arith, f.1))) f.0))
    (All-head IsSound p2 [] (All-tail IsSound p1 (p2 ∷ []) r)))
kept_after b (message_of kind name args) k s =
    let m = message_from b name.text args in
    let p1 = message_name_place b name in
    let p2 = whole_message_place name (some_too_long (m ∷ [])) in
    let n = message_name_sound b name (All-head IsSound p1 (argument_places b [] 0 args ++ p2 ∷ []) s) in
    let r = All-tail IsSound p1 (argument_places b [] 0 args ++ p2 ∷ []) s in
    let a = arguments_all b [] 0 args k.types (omega arith) (all_prefix (argument_places b [] 0 args) (p2 ∷ []) r) in
    let t = too_long_sound name (some_too_long (m ∷ [])) (All-head IsSound p2 [] (all_back (argument_places b [] 0 args) (p2 ∷ []) r)) in
    let w = message_within b name.text args a.0 (omega (arith, a.1)) (or_left (is_too_long m) false t) in
    kept_messages b (m ∷ []) k (both (is_message_within m) true w refl)
    (distinct_push (name_list b.messages) name.text k.distinct n.0) (omega (arith, n.1))
kept_after b (rpc_of name args) k s =
    let m1 = message_from b (call_name name) (ins args) in
    let m2 = message_from b (response_name name) (outs args) in
    let ds = arguments_of args in
    let p1 = rpc_name_place b name in
    let p2 = whole_message_place name (some_too_long (m1 ∷ (m2 ∷ []))) in
    let n = rpc_name_sound b name (All-head IsSound p1 (argument_places b [] 0 ds ++ p2 ∷ []) s) in
    let r = All-tail IsSound p1 (argument_places b [] 0 ds ++ p2 ∷ []) s in
    let a = arguments_all b [] 0 ds k.types (omega arith) (all_prefix (argument_places b [] 0 ds) (p2 ∷ []) r) in
    let i = ins_all b args a.0 in
    let o = outs_all b args a.0 in
    let t = too_long_sound name (some_too_long (m1 ∷ (m2 ∷ []))) (All-head IsSound p2 [] (all_back (argument_places b [] 0 ds) (p2 ∷ []) r)) in
    let t2 = or_right (is_too_long m1) (some_too_long (m2 ∷ [])) t in
    let w1 = message_within b (call_name name) (ins args) i.0 (omega (arith, a.1, i.1)) (or_left (is_too_long m1) (some_too_long (m2 ∷ [])) t) in
    let w2 = message_within b (response_name name) (outs args) o.0 (omega (arith, a.1, o.1)) (or_left (is_too_long m2) false t2) in
    kept_messages b (m1 ∷ (m2 ∷ [])) k (both (is_message_within m1) (is_message_within m2 && true) w1 (both (is_message_within m2) true w2 refl))
    (two_distinct (name_list b.messages) (call_name name) (response_name name) k.distinct n.0 n.1 (other_name name (bytes_eq (call_name name) (response_name name)) refl))
    (omega (arith, n.2))

kept_all : (b : Before) (ds : List TheDeclaration) → Kept b → All IsSound (places_from b ds) → Kept (after_all b ds)
kept_all b [] k s = k
kept_all b (d ∷ ds) k s =
    kept_all (after b d) ds (kept_after b d k (all_prefix (declaration_places b d) (places_from (after b d) ds) s)) (all_back (declaration_places b d) (places_from (after b d) ds) s)

pub kept_none : Kept nothing_declared
kept_none = record { types = All-nil (λ (k : Named). is_type_within k.type ≡ true); messages = refl; distinct = refl; few = omega arith }

-- a tree at which no rule is broken stands for an interface within the limits
pub within_limits : (tree : TheTree) → All IsSound (places tree) → is_within_limits (interface_from tree) ≡ true
within_limits tree s =
    let k = kept_all nothing_declared tree.declarations kept_none s in
    let ms = (after_all nothing_declared tree.declarations).messages in
    both (nat_le (length ms) 256) (are_distinct (name_list ms) && are_messages_within ms) (le-leb (length ms) 256 k.few)
    (both (are_distinct (name_list ms)) (are_messages_within ms) k.distinct k.messages)

-- a tree without a fault is checked
pub accepted : (tree : TheTree) (i : TheInterface) → first_fault (places tree) ≡ None → i ≡ interface_from tree → Checks tree (checked i)
accepted tree i n e = (all_sound (places tree) n, e)

-- what it stands for is within the limits
pub kept : (tree : TheTree) (i : TheInterface) → first_fault (places tree) ≡ None → i ≡ interface_from tree → is_within_limits i ≡ true
kept tree i n e = ap is_within_limits e ∙ within_limits tree (all_sound (places tree) n)
