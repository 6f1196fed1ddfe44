-- Working definitions of the code: the widths of numbers, and which numbers fit them.
use Rattle.std.specs.Prelude.{◌≤◌, ℕ, ℤ, pos, negsuc, ◌*◌, ◌^◌, nat_lt, Bool, false, List, [], ◌∷◌}
use Rattle.fl_interface.specs.Interface.{scalar, enumeration, TheArgType, fixed}
use Rattle.fl_interface.specs.Sizes.{scalar_size}
use Rattle.fl_value_data.specs.Value.{Datum, number, string, elements, fields}
use Rattle.fl_layout.specs.Leaves.{Leaf, whole, bits_of}

-- the bytes of a number's type
abbrev pub number_width : TheArgType → ℕ
number_width (fixed (scalar s)) = scalar_size s
number_width (fixed (enumeration n)) = 4
number_width t = 0

-- the number that a value is; 0 of other values
abbrev pub number_of : Datum → ℤ
number_of (number z) = z
number_of (string bytes) = pos 0
number_of (elements ds) = pos 0
number_of (fields ds) = pos 0

-- a number whose bits are below 2 ^ (8 * width)
abbrev pub fits_width : ℕ → ℤ → Bool
fits_width width (pos n) = nat_lt n (2 ^ (8 * width))
fits_width width (negsuc n) = nat_lt n (2 ^ (8 * width))

-- an enum has at most as many enumerators as its 4 bytes can tell apart
abbrev pub IsWordSized : TheArgType → Type 0
IsWordSized (fixed (enumeration n)) = n ≤ 2 ^ 32
IsWordSized t = Unit {0}

-- a number that fits a width
abbrev pub is_number_within : ℕ → Datum → Bool
is_number_within width (number z) = fits_width width z
is_number_within width (string bytes) = false
is_number_within width (elements ds) = false
is_number_within width (fields ds) = false

-- numbers of one width, put onto the leaves before them
abbrev pub numbers_onto : ℕ → List Datum → List Leaf → List Leaf
numbers_onto width [] before = before
numbers_onto width (d ∷ ds) before = numbers_onto width ds (whole width (bits_of width (number_of d)) ∷ before)
