-- Numbers and the values that they stand for.
use Rattle.std.proofs.Common.{◌≡◌, ℕ, suc, ℤ, pos, negsuc, ◌+◌, ◌-◌, ◌*◌, ◌/◌, ◌%◌, ◌^◌, ◌<◌, ◌≤◌, Bool, true, false, cond, leb, ◌⊎◌, inl, inr, ⊎_elim, List, [], ◌∷◌, ◌++◌, length, refl, sym, ◌∙◌, ap, subst, arith}
use Rattle.std.specs.Prelude.{Option, Some, None}
use Rattle.std.specs.List.{zip, flat_map, list_all}
use Rattle.std.specs.Cmp.{first_so, second_so}
use Rattle.std.proofs.Math.Nat.{mod-eq_of_lt}
use Rattle.std.proofs.lemmas.Bool.{cases_lt, lt-ltb, leb-true, le-leb, false≢true}
use Rattle.fl_interface.specs.declared.interface.Scalar.{Scalar}
use Rattle.fl_interface.specs.declared.interface.Scalar.TheVariants.{Uint8, Int8, Bool as BoolType, Char, Uint16, Int16, Uint32, Int32, Iref, Uint64, Int64, Uintptr, Intptr, Size, Errval}
use Rattle.fl_interface.specs.Interface.{scalar, enumeration, structure, array, TheArgType, fixed, text, sized}
use Rattle.fl_interface.specs.Sizes.{IsAlign, scalar_size, round_up}
use Rattle.fl_interface.proofs.Aligned.{scalar_align, by_align}
use Rattle.fl_value_data.specs.Value.{Datum, number, string, elements, fields}
use Rattle.fl_value_data.specs.Fits.{is_scalar_value, is_enumerator, scalar_bits, least_above, how_many_below, is_argument, are_arguments}
use Rattle.fl_value_data.specs.Plan.{is_dynamic}
use Rattle.fl_value_data.specs.Tape.{raw_of, argument_tape, tape_of_argument}
use Rattle.fl_value_data.specs.Taken.{ArgumentAt, InTurn}
use Rattle.fl_layout.specs.Leaves.{Leaf, whole, bits_of, argument_onto, arguments_onto}
use Rattle.fl_layout.specs.Places.{size}
use Rattle.fl_wire.proofs.Agreement.{InRange, scalar_room, scalar_range, enum_range}
use Rattle.fl_wire.proofs.Defaults.{numbers_some}
use Rattle.fl_base.specs.Given.{given}
use Rattle.fl_codec.specs.NumberPlaces.{is_number, how_many_values, width_of, place_at, places_behind}
use Rattle.fl_codec.specs.Words.{put, filled, Emptied, taken_one, taken}
use Rattle.fl_codec.proofs.Leaves.{words_of, put_leaf, taken_leaf}

-- ---- one number

-- a scalar has no value below 0, or all that its bits tell apart
scalar_signs : (s : Scalar) → (how_many_below s ≡ 0) ⊎ (least_above s + how_many_below s ≡ 2 ^ (8 * scalar_size s))
scalar_signs Uint8 = inl refl
scalar_signs Int8 = inr refl
scalar_signs BoolType = inl refl
scalar_signs Char = inl refl
scalar_signs Uint16 = inl refl
scalar_signs Int16 = inr refl
scalar_signs Uint32 = inl refl
scalar_signs Int32 = inr refl
scalar_signs Iref = inl refl
scalar_signs Uint64 = inl refl
scalar_signs Int64 = inr refl
scalar_signs Uintptr = inl refl
scalar_signs Intptr = inr refl
scalar_signs Size = inl refl
scalar_signs Errval = inl refl

in_range : (s : Scalar) (z : ℤ) → InRange (least_above s) (how_many_below s) z → is_scalar_value s z ≡ true
in_range s (pos n) h = lt-ltb n (least_above s) h
in_range s (negsuc n) h = lt-ltb n (how_many_below s) h

-- a number's bits on a tape are those of its leaf, and below the count of values
bits_on_tape : (width high below : ℕ) → high + below ≤ 2 ^ (8 * width) → ((below ≡ 0) ⊎ (high + below ≡ 2 ^ (8 * width))) → (z : ℤ) → InRange high below z
    → (bits_of width z ≡ raw_of (8 * width) z) × (raw_of (8 * width) z < high + below)
bits_on_tape width high below room signs (pos n) h =
    let same : n % 2 ^ (8 * width) ≡ n = mod-eq_of_lt (omega (arith, room, h)) in
    (sym same, omega (arith, same, h))
bits_on_tape width high below room (inl none) (negsuc n) h = absurd (omega (arith, none, h))
bits_on_tape width high below room (inr all) (negsuc n) h =
    let same : n % 2 ^ (8 * width) ≡ n = mod-eq_of_lt (omega (arith, all, h)) in
    (ap (λ (k : ℕ). 2 ^ (8 * width) - 1 - k) (sym same), omega (arith, same, all, h))

-- a number with these bits
record WithBits (width high below x : ℕ) : Type 0 where
  z : ℤ
  range : InRange high below z
  bits_are : raw_of (8 * width) z ≡ x

with_bits : (width high below x : ℕ) → high + below ≤ 2 ^ (8 * width) → ((below ≡ 0) ⊎ (high + below ≡ 2 ^ (8 * width))) → x < high + below → WithBits width high below x
with_bits width high below x room signs h = ⊎_elim
    (λ (small : x < high). record { z = pos x; range = small; bits_are = mod-eq_of_lt (omega (arith, room, h)) })
    (λ (large : high ≤ x).
    let all : high + below ≡ 2 ^ (8 * width)
    = ⊎_elim (λ (none : below ≡ 0). absurd (omega (arith, none, large, h))) (λ (e : high + below ≡ 2 ^ (8 * width)). e) signs in
    let n = 2 ^ (8 * width) - 1 - x in
    let same : n % 2 ^ (8 * width) ≡ n = mod-eq_of_lt (omega (arith, all, h)) in
    let range : n < below = omega (arith, all, large, h) in
    let bits : raw_of (8 * width) (negsuc n) ≡ x = omega (arith, same, all, h) in
    record { z = negsuc n; range = range; bits_are = bits })
    (cases_lt x high)

-- a number's type
pub record IsNumber (t : TheArgType) : Type 0 where
  pub align : IsAlign (width_of t)
  pub some : 0 < how_many_values t
  pub room : how_many_values t ≤ 2 ^ (8 * width_of t)
  pub plain : is_dynamic t ≡ false

pub number_is : (t : TheArgType) → is_number t ≡ true → IsNumber t
number_is (fixed (scalar s)) h = record { align = scalar_align s; some = numbers_some s; room = scalar_room s; plain = refl }
number_is (fixed (enumeration n)) h =
    record { align = inr (inr (inl refl)); some = leb-true 1 n (first_so _ _ h); room = leb-true n (2 ^ 32) (second_so (leb 1 n) _ h); plain = refl }
number_is (fixed (structure ts)) h = absurd (false≢true h)
number_is (fixed (array n t)) h = absurd (false≢true h)
number_is (text most) h = absurd (false≢true h)
number_is (sized most t) h = absurd (false≢true h)

-- a value of the type, by its number
pub record IsValueOf (t : TheArgType) (d : Datum) (n : ℕ) : Type 0 where
  pub typed : is_argument t d ≡ true
  pub tape : argument_tape t d ≡ n ∷ []
  pub onto : (low : List Leaf) → argument_onto t d low ≡ whole (width_of t) n ∷ low
  pub few : n ≤ how_many_values t - 1

scalar_value : (s : Scalar) (z : ℤ) → is_scalar_value s z ≡ true → IsValueOf (fixed (scalar s)) (number z) (raw_of (scalar_bits s) z)
scalar_value s z h =
    let (bits, few) = bits_on_tape (scalar_size s) (least_above s) (how_many_below s) (scalar_room s) (scalar_signs s) z (scalar_range s z h) in
    record { typed = h; tape = refl; onto = λ low. ap (λ (b : ℕ). whole (scalar_size s) b ∷ low) bits; few = omega (arith, few) }

enum_value : (n : ℕ) (z : ℤ) → n ≤ 2 ^ 32 → is_enumerator n z ≡ true → IsValueOf (fixed (enumeration n)) (number z) (raw_of 32 z)
enum_value n z most h =
    let (bits, few) = bits_on_tape 4 n 0 (omega (arith, most)) (inl refl) z (enum_range n z h) in
    record { typed = h; tape = refl; onto = λ low. ap (λ (b : ℕ). whole 4 b ∷ low) bits; few = omega (arith, few) }

number_of : (t : TheArgType) (d : Datum) → is_number t ≡ true → is_argument t d ≡ true → (n : ℕ) × IsValueOf t d n
number_of (fixed (scalar s)) (number z) k h = (raw_of (scalar_bits s) z, scalar_value s z h)
number_of (fixed (scalar s)) (string bs) k h = absurd (false≢true h)
number_of (fixed (scalar s)) (elements ds) k h = absurd (false≢true h)
number_of (fixed (scalar s)) (fields ds) k h = absurd (false≢true h)
number_of (fixed (enumeration n)) (number z) k h = (raw_of 32 z, enum_value n z (leb-true n (2 ^ 32) (second_so (leb 1 n) _ k)) h)
number_of (fixed (enumeration n)) (string bs) k h = absurd (false≢true h)
number_of (fixed (enumeration n)) (elements ds) k h = absurd (false≢true h)
number_of (fixed (enumeration n)) (fields ds) k h = absurd (false≢true h)
number_of (fixed (structure ts)) d k h = absurd (false≢true k)
number_of (fixed (array n t)) d k h = absurd (false≢true k)
number_of (text most) d k h = absurd (false≢true k)
number_of (sized most t) d k h = absurd (false≢true k)

scalar_there : (s : Scalar) (x : ℕ) → x < least_above s + how_many_below s → (d : Datum) × IsValueOf (fixed (scalar s)) d x
scalar_there s x h =
    let w = with_bits (scalar_size s) (least_above s) (how_many_below s) x (scalar_room s) (scalar_signs s) h in
    (number w.z, subst (λ (n : ℕ). IsValueOf (fixed (scalar s)) (number w.z) n) w.bits_are (scalar_value s w.z (in_range s w.z w.range)))

enum_there : (n x : ℕ) → n ≤ 2 ^ 32 → x < n → (d : Datum) × IsValueOf (fixed (enumeration n)) d x
enum_there n x most h =
    let same : x % 2 ^ 32 ≡ x = mod-eq_of_lt (omega (arith, most, h)) in
    (number (pos x), subst (λ (m : ℕ). IsValueOf (fixed (enumeration n)) (number (pos x)) m) same (enum_value n (pos x) most (lt-ltb x n h)))

value_there : (t : TheArgType) (x : ℕ) → is_number t ≡ true → x ≤ how_many_values t - 1 → (d : Datum) × IsValueOf t d x
value_there (fixed (scalar s)) x k h = scalar_there s x (omega (arith, h, numbers_some s))
value_there (fixed (enumeration n)) x k h =
    let some = leb-true 1 n (first_so _ _ k) in
    enum_there n x (leb-true n (2 ^ 32) (second_so (leb 1 n) _ k)) (omega (arith, h, some))
value_there (fixed (structure ts)) x k h = absurd (false≢true k)
value_there (fixed (array n t)) x k h = absurd (false≢true k)
value_there (text most) x k h = absurd (false≢true k)
value_there (sized most t) x k h = absurd (false≢true k)

-- ---- several

-- values of these types, by their numbers
abbrev pub AreValuesOf : List TheArgType → List Datum → List ℕ → Type 0
AreValuesOf [] [] [] = Unit {0}
AreValuesOf (t ∷ ts) (d ∷ ds) (n ∷ ns) = IsValueOf t d n × AreValuesOf ts ds ns
AreValuesOf ts ds ns = ⊥

pub numbers_of : (ts : List TheArgType) (ds : List Datum) → list_all is_number ts ≡ true → are_arguments ts ds ≡ true → (ns : List ℕ) × AreValuesOf ts ds ns
numbers_of [] [] k h = ([], tt)
numbers_of [] (d ∷ ds) k h = absurd (false≢true h)
numbers_of (t ∷ ts) [] k h = absurd (false≢true h)
numbers_of (t ∷ ts) (d ∷ ds) k h =
    let (n, one) = number_of t d (first_so (is_number t) _ k) (first_so (is_argument t d) _ h) in
    let (ns, others) = numbers_of ts ds (second_so (is_number t) _ k) (second_so (is_argument t d) _ h) in
    (n ∷ ns, (one, others))

pub their_tape : (ts : List TheArgType) (ds : List Datum) (ns : List ℕ) → AreValuesOf ts ds ns → flat_map tape_of_argument (zip ts ds) ≡ ns
their_tape [] [] [] h = refl
their_tape (t ∷ ts) (d ∷ ds) (n ∷ ns) h = ap (λ (l : List ℕ). l ++ flat_map tape_of_argument (zip ts ds)) h.0.tape ∙ ap (λ (l : List ℕ). n ∷ l) (their_tape ts ds ns h.1)
their_tape ts ds ns h = absurd h

pub they_stand : (ts : List TheArgType) (ds : List Datum) (ns : List ℕ) → AreValuesOf ts ds ns → InTurn ArgumentAt ts ns ds []
they_stand [] [] [] h = refl
they_stand (t ∷ ts) (d ∷ ds) (n ∷ ns) h = (ns, record { typed = h.0.typed; prefix = ap (λ (l : List ℕ). l ++ ns) (sym h.0.tape) }, they_stand ts ds ns h.1)
they_stand ts ds ns h = absurd h

pub as_many_values : (ts : List TheArgType) (ds : List Datum) (ns : List ℕ) → AreValuesOf ts ds ns → length ds ≡ length ts
as_many_values [] [] [] h = refl
as_many_values (t ∷ ts) (d ∷ ds) (n ∷ ns) h = ap (λ (k : ℕ). suc k) (as_many_values ts ds ns h.1)
as_many_values ts ds ns h = absurd h

-- the leaves of an argument more
abbrev pub leaves_onto : List TheArgType → List Datum → List Leaf → List Leaf
leaves_onto ts ds low = arguments_onto false (zip ts ds) low

one_onto : (t : TheArgType) (ts : List TheArgType) (d : Datum) (ds : List Datum) (n : ℕ) (low : List Leaf) → IsNumber t → IsValueOf t d n
    → leaves_onto (t ∷ ts) (d ∷ ds) low ≡ leaves_onto ts ds (whole (width_of t) n ∷ low)
one_onto t ts d ds n low k h =
    ap (λ (b : Bool). arguments_onto b (zip ts ds) (argument_onto t d low)) k.plain ∙ ap (leaves_onto ts ds) (h.onto low)

-- a number more ends within eight bytes more
pub ends_within : (n w k : ℕ) → IsAlign w → n ≤ 8 * k → round_up n w + w ≤ 8 * (k + 1)
ends_within n w k align h = by_align (λ (v : ℕ). round_up n v + v ≤ 8 * (k + 1)) (omega (arith, h)) (omega (arith, h)) (omega (arith, h)) (omega (arith, h)) w align

pub sizes_within : (ts : List TheArgType) (ds : List Datum) (ns : List ℕ) (low : List Leaf) (k : ℕ) → list_all is_number ts ≡ true → AreValuesOf ts ds ns → size low ≤ 8 * k
    → size (leaves_onto ts ds low) ≤ 8 * (k + length ts)
sizes_within [] [] [] low k numbers h few = omega (arith, few)
sizes_within (t ∷ ts) (d ∷ ds) (n ∷ ns) low k numbers h few =
    let known = number_is t (first_so (is_number t) _ numbers) in
    let rest = sizes_within ts ds ns (whole (width_of t) n ∷ low) (k + 1) (second_so (is_number t) _ numbers) h.1 (ends_within (size low) (width_of t) k known.align few) in
    let same = ap size (one_onto t ts d ds n low known h.0) in
    omega (arith, rest, same)
sizes_within ts ds ns low k numbers h few = absurd h

pub word_within : (n w k : ℕ) → IsAlign w → n ≤ 8 * k → k < 7 → round_up n w / 8 < 7
word_within n w k align h small =
    let end = ends_within n w k align h in
    let some = by_align (λ (v : ℕ). 0 < v) (omega arith) (omega arith) (omega arith) (omega arith) w align in
    omega (arith, end, some, small)

bits_within : (t : TheArgType) (n : ℕ) → IsNumber t → n ≤ how_many_values t - 1 → n < 2 ^ (8 * width_of t)
bits_within t n k h = omega (arith, k.some, k.room, h)

-- the words of values are those that their numbers fill
pub values_fill : (ts : List TheArgType) (ds : List Datum) (ns : List ℕ) (low : List Leaf) (k : ℕ) → list_all is_number ts ≡ true → AreValuesOf ts ds ns → size low ≤ 8 * k → k + length ts ≤ 7
    → filled (places_behind (size low) ts) ns (words_of low) ≡ Some (words_of (leaves_onto ts ds low))
values_fill [] [] [] low k numbers h few room = refl
values_fill (t ∷ ts) (d ∷ ds) (n ∷ ns) low k numbers h few room =
    let known = number_is t (first_so (is_number t) _ numbers) in
    let w = width_of t in
    let p = round_up (size low) w in
    let behind = places_behind (p + w) ts in
    let rest = values_fill ts ds ns (whole w n ∷ low) (k + 1) (second_so (is_number t) _ numbers) h.1 (ends_within (size low) w k known.align few) (omega (arith, room)) in
    let inside : k < 7 = omega (arith, room) in
    ap (λ (b : Bool). cond b (filled behind ns (put (place_at p t) n (words_of low))) None) (le-leb n (how_many_values t - 1) h.0.few)
    ∙ ap (filled behind ns) (put_leaf t low n known.align (bits_within t n known h.0.few) (word_within (size low) w k known.align few inside))
    ∙ rest ∙ ap (λ (ls : List Leaf). Some (words_of ls)) (sym (one_onto t ts d ds n low known h.0))
values_fill ts ds ns low k numbers h few room = absurd h

-- and their numbers are taken from them
pub values_taken : (ts : List TheArgType) (ds : List Datum) (ns : List ℕ) (low : List Leaf) (k : ℕ) → list_all is_number ts ≡ true → AreValuesOf ts ds ns → size low ≤ 8 * k → k + length ts ≤ 7
    → taken (places_behind (size low) ts) (words_of (leaves_onto ts ds low)) ≡ Some (record { numbers = ns; left = words_of low })
values_taken [] [] [] low k numbers h few room = refl
values_taken (t ∷ ts) (d ∷ ds) (n ∷ ns) low k numbers h few room =
    let known = number_is t (first_so (is_number t) _ numbers) in
    let w = width_of t in
    let p = round_up (size low) w in
    let rest = values_taken ts ds ns (whole w n ∷ low) (k + 1) (second_so (is_number t) _ numbers) h.1 (ends_within (size low) w k known.align few) (omega (arith, room)) in
    let inside : k < 7 = omega (arith, room) in
    let same = ap (λ (ls : List Leaf). taken (places_behind (p + w) ts) (words_of ls)) (one_onto t ts d ds n low known h.0) in
    ap (λ (o : Option Emptied). given o None (taken_one (place_at p t))) (same ∙ rest)
    ∙ taken_leaf t low n ns known.align (bits_within t n known h.0.few) h.0.few (word_within (size low) w k known.align few inside)
values_taken ts ds ns low k numbers h few room = absurd h

-- numbers that fill words at the places of types are those of values
values_at : (t : TheArgType) (ts : List TheArgType) (n : ℕ) (ns vs : List ℕ) (rest : Option (List ℕ)) (b : Bool) → leb n (how_many_values t - 1) ≡ b → is_number t ≡ true
    → (rest ≡ Some vs → (ds : List Datum) × AreValuesOf ts ds ns) → cond b rest None ≡ Some vs → (ds : List Datum) × AreValuesOf (t ∷ ts) ds (n ∷ ns)
values_at t ts n ns vs rest false is known others e = absurd (cc)
values_at t ts n ns vs rest true is known others e =
    let (d, one) = value_there t n known (leb-true n (how_many_values t - 1) is) in
    let (ds, more) = others e in
    (d ∷ ds, (one, more))

pub values_there : (ts : List TheArgType) (ns ws vs : List ℕ) (end : ℕ) → list_all is_number ts ≡ true → filled (places_behind end ts) ns ws ≡ Some vs → (ds : List Datum) × AreValuesOf ts ds ns
values_there [] [] ws vs end numbers e = ([], tt)
values_there [] (n ∷ ns) ws vs end numbers e = absurd (cc)
values_there (t ∷ ts) [] ws vs end numbers e = absurd (cc)
values_there (t ∷ ts) (n ∷ ns) ws vs end numbers e =
    let p = round_up end (width_of t) in
    values_at t ts n ns vs (filled (places_behind (p + width_of t) ts) ns (put (place_at p t) n ws)) (leb n (how_many_values t - 1)) refl (first_so (is_number t) _ numbers)
    (λ (f : filled (places_behind (p + width_of t) ts) ns (put (place_at p t) n ws) ≡ Some vs).
    values_there ts ns (put (place_at p t) n ws) vs (p + width_of t) (second_so (is_number t) _ numbers) f) e
