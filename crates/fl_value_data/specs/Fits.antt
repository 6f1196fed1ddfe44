-- Which values a type has, and which calls fit an interface.
use Rattle.std.specs.Prelude.{ℕ, ℤ, pos, negsuc, ◌+◌, ◌-◌, ◌*◌, ◌^◌, ◌==◌, ◌&&◌, nat_lt, nat_le}
use Rattle.std.specs.Prelude.{Bool, true, false, if◌then◌else◌, List, [], ◌∷◌, length, slice_get, Option, Some, None}
use Rattle.std.specs.List.{list_all}
use Rattle.fl_interface.specs.declared.interface.Scalar.{Scalar}
use Rattle.fl_interface.specs.declared.interface.Scalar.TheVariants.{Int8, Bool as BoolType, Int16, Int32, Int64, Intptr}
use Rattle.fl_interface.specs.Interface.{TheType, scalar, enumeration, structure, array, TheTypes, no_more}
use Rattle.fl_interface.specs.Interface.{field, TheArgType, fixed, text, sized, TheMessage, TheInterface}
use Rattle.fl_interface.specs.Sizes.{scalar_size}
use Rattle.fl_value_data.specs.Value.{Datum, number, string, elements, fields, Data, nothing_more, also, TheCall}

-- signed numbers are two's complement
abbrev pub is_signed : Scalar → Bool
is_signed Int8 = true
is_signed Int16 = true
is_signed Int32 = true
is_signed Int64 = true
is_signed Intptr = true
is_signed _ = false

-- how many bits a scalar has
abbrev pub scalar_bits : Scalar → ℕ
scalar_bits s = 8 * scalar_size s

-- the numbers from 0 that a scalar has are those below this one; a bool is 0 or 1
abbrev pub least_above : Scalar → ℕ
least_above BoolType = 2
least_above s = if is_signed s then 2 ^ (scalar_bits s - 1) else 2 ^ scalar_bits s

-- -1 - n is a value of the scalar where n is below this number
abbrev pub how_many_below : Scalar → ℕ
how_many_below s = if is_signed s then 2 ^ (scalar_bits s - 1) else 0

abbrev pub is_scalar_value : Scalar → ℤ → Bool
is_scalar_value s (pos n) = nat_lt n (least_above s)
is_scalar_value s (negsuc n) = nat_lt n (how_many_below s)

abbrev pub is_enumerator : ℕ → ℤ → Bool
is_enumerator count (pos n) = nat_lt n count
is_enumerator count (negsuc n) = false

abbrev pub count_of : Data → ℕ
count_of nothing_more = 0
count_of (also d ds) = 1 + count_of ds

-- the value is one of the type
abbrev mutual
  pub has_type : TheType → Datum → Bool
  has_type (scalar s) (number z) = is_scalar_value s z
  has_type (enumeration n) (number z) = is_enumerator n z
  has_type (structure ts) (fields ds) = have_types ts ds
  has_type (array n t) (elements ds) = (count_of ds == n) && all_have_type t ds
  has_type t d = false

  pub have_types : TheTypes → Data → Bool
  have_types no_more nothing_more = true
  have_types (field t ts) (also d ds) = has_type t d && have_types ts ds
  have_types ts ds = false

  pub all_have_type : TheType → Data → Bool
  all_have_type t nothing_more = true
  all_have_type t (also d ds) = has_type t d && all_have_type t ds

-- a byte that a string may hold: 1 to 255
abbrev pub is_text_byte : ℕ → Bool
is_text_byte b = nat_lt 0 b && nat_lt b 256

abbrev pub is_argument : TheArgType → Datum → Bool
is_argument (fixed t) d = has_type t d
is_argument (text max) (string bytes) = nat_le (length bytes) max && list_all is_text_byte bytes
is_argument (sized max t) (elements ds) = nat_le (count_of ds) max && all_have_type t ds
is_argument t d = false

abbrev pub are_arguments : List TheArgType → List Datum → Bool
are_arguments [] [] = true
are_arguments (t ∷ ts) (d ∷ ds) = is_argument t d && are_arguments ts ds
are_arguments ts ds = false

abbrev pub fit_message : Option TheMessage → List Datum → Bool
fit_message None args = false
fit_message (Some m) args = are_arguments m.args args

-- the message number exists and the arguments have its types
abbrev pub fits_of : TheInterface → TheCall → Bool
fits_of i c = fit_message (slice_get i.messages c.msg) c.args
