-- A value of each type that has one.
use Rattle.std.proofs.Common.{◌≡◌, ℕ, pos, zero, suc, ◌+◌, ◌<◌, ◌&&◌, Bool, true, List, [], ◌∷◌, length, refl, ap, arith, eq-eqb, lit≤}
use Rattle.std.specs.List.{list_all}
use Rattle.std.specs.Cmp.{first_so, second_so}
use Rattle.std.proofs.lemmas.Bool.{lt-ltb, le-leb}
use Rattle.fl_interface.specs.declared.interface.Scalar.{Scalar}
use Rattle.fl_interface.specs.declared.interface.Scalar.TheVariants.{Uint8, Int8, Bool as BoolType, Char, Uint16, Int16, Uint32, Int32, Iref, Uint64, Int64, Uintptr, Intptr, Size, Errval}
use Rattle.fl_interface.specs.Interface.{TheType, scalar, enumeration, structure, array, TheTypes, no_more, field, TheArgType, fixed, text, sized}
use Rattle.fl_value_data.specs.Value.{Datum, number, string, elements, fields, Data, nothing_more, also}
use Rattle.fl_value_data.specs.Fits.{has_type, have_types, all_have_type, count_of, is_argument, are_arguments, is_text_byte, least_above, how_many_below}
use Rattle.fl_wire.specs.Alive.{has_values, all_have_values, argument_has_values}

pub both : (a b : Bool) → a ≡ true → b ≡ true → (a && b) ≡ true
both a b p q = rw (p, q) refl

pub above_some : (s : Scalar) → 0 < least_above s
above_some Uint8 = lit≤ tt
above_some Int8 = lit≤ tt
above_some BoolType = lit≤ tt
above_some Char = lit≤ tt
above_some Uint16 = lit≤ tt
above_some Int16 = lit≤ tt
above_some Uint32 = lit≤ tt
above_some Int32 = lit≤ tt
above_some Iref = lit≤ tt
above_some Uint64 = lit≤ tt
above_some Int64 = lit≤ tt
above_some Uintptr = lit≤ tt
above_some Intptr = lit≤ tt
above_some Size = lit≤ tt
above_some Errval = lit≤ tt

pub numbers_some : (s : Scalar) → 0 < least_above s + how_many_below s
numbers_some s = omega (arith, above_some s)

abbrev copies : ℕ → Datum → Data
copies zero d = nothing_more
copies (suc n) d = also d (copies n d)

copies_count : (n : ℕ) (d : Datum) → count_of (copies n d) ≡ n
copies_count zero d = refl
copies_count (suc n) d = omega (arith, copies_count n d)

copies_fit : (n : ℕ) (t : TheType) (d : Datum) → has_type t d ≡ true → all_have_type t (copies n d) ≡ true
copies_fit zero t d h = refl
copies_fit (suc n) t d h = both _ _ h (copies_fit n t d h)

mutual
  pub default_value : (t : TheType) → has_values t ≡ true → (d : Datum) × (has_type t d ≡ true)
  default_value (scalar s) h = (number (pos 0), lt-ltb 0 (least_above s) (above_some s))
  default_value (enumeration n) h = (number (pos 0), h)
  default_value (structure ts) h = let (ds, f) = default_fields ts h in (fields ds, f)
  default_value (array n t) h =
      let (d, f) = default_value t h in
      (elements (copies n d), both _ _ (eq-eqb (count_of (copies n d)) n (copies_count n d)) (copies_fit n t d f))

  pub default_fields : (ts : TheTypes) → all_have_values ts ≡ true → (ds : Data) × (have_types ts ds ≡ true)
  default_fields no_more h = (nothing_more, refl)
  default_fields (field t ts) h =
      let (d, f) = default_value t (first_so _ _ h) in
      let (ds, g) = default_fields ts (second_so _ _ h) in
      (also d ds, both _ _ f g)

pub default_elements : (n : ℕ) (t : TheType) → has_values t ≡ true → (ds : Data) × ((count_of ds ≡ n) × (all_have_type t ds ≡ true))
default_elements n t h = let (d, f) = default_value t h in (copies n d, (copies_count n d, copies_fit n t d f))

pub default_text : (n : ℕ) → (bs : List ℕ) × ((length bs ≡ n) × (list_all is_text_byte bs ≡ true))
default_text zero = ([], (refl, refl))
default_text (suc n) = let (bs, (long, f)) = default_text n in (1 ∷ bs, (ap suc long, f))

pub default_argument : (t : TheArgType) → argument_has_values t ≡ true → (d : Datum) × (is_argument t d ≡ true)
default_argument (fixed t) h = default_value t h
default_argument (text max) h = (string [], both _ _ (le-leb 0 max (omega arith)) refl)
default_argument (sized max t) h = (elements nothing_more, both _ _ (le-leb 0 max (omega arith)) refl)

pub default_arguments : (ts : List TheArgType) → list_all argument_has_values ts ≡ true → (ds : List Datum) × (are_arguments ts ds ≡ true)
default_arguments [] h = ([], refl)
default_arguments (t ∷ ts) h =
    let (d, f) = default_argument t (first_so (argument_has_values t) _ h) in
    let (ds, g) = default_arguments ts (second_so (argument_has_values t) _ h) in
    (d ∷ ds, both (is_argument t d) (are_arguments ts ds) f g)
