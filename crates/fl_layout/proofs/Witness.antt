-- Every type within the limits has a value, and every message a shortest and a longest call.
use Rattle.std.proofs.Common.{◌≡◌, ℕ, pos, zero, suc, true, List, [], ◌∷◌, map, replicate, refl, arith}
use Rattle.std.proofs.lemmas.Bool.{and_parts, and_from, lt-ltb, le-leb, eq-eqb, leb-true}
use Rattle.std.proofs.lemmas.List.{length-replicate}
use Rattle.std.specs.List.{list_all}
use Rattle.fl_interface.specs.declared.interface.Scalar.{Scalar}
use Rattle.fl_interface.specs.declared.interface.Scalar.TheVariants.{Uint8, Int8, Bool as BoolType, Char, Uint16, Int16, Uint32, Int32, Iref, Uint64, Int64, Uintptr, Intptr, Size, Errval}
use Rattle.fl_interface.specs.Interface.{TheType, scalar, enumeration, structure, array, TheTypes, no_more, field, TheArgType, fixed, text, sized}
use Rattle.fl_interface.specs.Limits.{is_well_made, are_well_made, is_argument_within, are_arguments_within}
use Rattle.fl_value_data.specs.Value.{Datum, number, string, elements, fields, Data, nothing_more, also}
use Rattle.fl_value_data.specs.Fits.{has_type, have_types, all_have_type, is_scalar_value, is_argument, are_arguments, is_text_byte, count_of}

abbrev pub so_many : ℕ → Datum → Data
so_many zero d = nothing_more
so_many (suc n) d = also d (so_many n d)

pub count_many : (n : ℕ) (d : Datum) → count_of (so_many n d) ≡ n
count_many zero d = refl
count_many (suc n) d = omega (arith, count_many n d)

pub many_have : (n : ℕ) (t : TheType) (d : Datum) → has_type t d ≡ true → all_have_type t (so_many n d) ≡ true
many_have zero t d h = refl
many_have (suc n) t d h = and_from _ _ h (many_have n t d h)

abbrev mutual
  pub some_value : TheType → Datum
  some_value (scalar s) = number (pos 0)
  some_value (enumeration n) = number (pos 0)
  some_value (structure ts) = fields (some_values ts)
  some_value (array n t) = elements (so_many n (some_value t))

  pub some_values : TheTypes → Data
  some_values no_more = nothing_more
  some_values (field t ts) = also (some_value t) (some_values ts)

zero_is : (s : Scalar) → is_scalar_value s (pos 0) ≡ true
zero_is Uint8 = refl
zero_is Int8 = refl
zero_is BoolType = refl
zero_is Char = refl
zero_is Uint16 = refl
zero_is Int16 = refl
zero_is Uint32 = refl
zero_is Int32 = refl
zero_is Iref = refl
zero_is Uint64 = refl
zero_is Int64 = refl
zero_is Uintptr = refl
zero_is Intptr = refl
zero_is Size = refl
zero_is Errval = refl

mutual
  pub has_some : (t : TheType) → is_well_made t ≡ true → has_type t (some_value t) ≡ true
  has_some (scalar s) w = zero_is s
  has_some (enumeration n) w = lt-ltb 0 n (omega (arith, leb-true 1 n w))
  has_some (structure ts) w = have_some ts (and_parts _ _ (and_parts _ _ w).1).1
  has_some (array n t) w =
      let made = (and_parts _ _ (and_parts _ _ w).1).1 in
      and_from _ _ (eq-eqb _ _ (count_many n (some_value t))) (many_have n t (some_value t) (has_some t made))

  pub have_some : (ts : TheTypes) → are_well_made ts ≡ true → have_types ts (some_values ts) ≡ true
  have_some no_more w = refl
  have_some (field t ts) w =
      let made = and_parts (is_well_made t) (are_well_made ts) w in
      and_from _ _ (has_some t made.0) (have_some ts made.1)

-- the shortest value of an argument
abbrev pub shortest : TheArgType → Datum
shortest (fixed t) = some_value t
shortest (text most) = string []
shortest (sized most t) = elements nothing_more

-- the longest value of an argument
abbrev pub longest : TheArgType → Datum
longest (fixed t) = some_value t
longest (text most) = string (replicate most 1)
longest (sized most t) = elements (so_many most (some_value t))

ones : (n : ℕ) → list_all is_text_byte (replicate n 1) ≡ true
ones zero = refl
ones (suc n) = ones n

pub shortest_is : (t : TheArgType) → is_argument_within t ≡ true → is_argument t (shortest t) ≡ true
shortest_is (fixed t) w = has_some t (and_parts _ _ w).0
shortest_is (text most) w = and_from _ _ (le-leb 0 most (omega arith)) refl
shortest_is (sized most t) w = and_from _ _ (le-leb 0 most (omega arith)) refl

pub longest_is : (t : TheArgType) → is_argument_within t ≡ true → is_argument t (longest t) ≡ true
longest_is (fixed t) w = has_some t (and_parts _ _ w).0
longest_is (text most) w = and_from _ _ (le-leb _ most (omega (arith, length-replicate {A = ℕ} most 1))) (ones most)
longest_is (sized most t) w =
    let made = (and_parts _ _ (and_parts _ _ (and_parts _ _ w).1).1).0 in
    and_from _ _ (le-leb _ most (omega (arith, count_many most (some_value t)))) (many_have most t (some_value t) (has_some t made))

pub are_of : (value : TheArgType → Datum) → ((t : TheArgType) → is_argument_within t ≡ true → is_argument t (value t) ≡ true)
    → (ts : List TheArgType) → are_arguments_within ts ≡ true → are_arguments ts (map value ts) ≡ true
are_of value is [] w = refl
are_of value is (t ∷ ts) w =
    let within = and_parts (is_argument_within t) (are_arguments_within ts) w in
    and_from _ _ (is t within.0) (are_of value is ts within.1)
