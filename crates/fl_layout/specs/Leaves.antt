-- The leaves of a call: what stands in its payload, one by one. A list of leaves has the last one first, so
-- that what stands before a leaf is the rest of the list. No leaf has a position.
use Rattle.std.specs.Prelude.{ℕ, ℤ, pos, negsuc, ◌-◌, ◌*◌, ◌^◌, Bool, true, false, if◌then◌else◌, List, [], ◌∷◌, length, slice_get}
use Rattle.std.specs.List.{zip}
use Rattle.fl_interface.specs.Interface.{TheType, scalar, enumeration, structure, array, TheTypes, field}
use Rattle.fl_interface.specs.Interface.{TheArgType, fixed, text, sized, TheInterface}
use Rattle.fl_interface.specs.Sizes.{scalar_size, greatest_align}
use Rattle.fl_value_data.specs.Value.{Datum, number, string, elements, fields, Data, nothing_more, also, TheCall}
use Rattle.fl_value_data.specs.Fits.{count_of}
use Rattle.fl_value_data.specs.Plan.{arranged, is_dynamic}
use Rattle.fl_value_data.specs.declared.value.PlanNo.{PlanNo}
use Rattle.fl_value_data.specs.Tape.{Argument, kind, types_of}

-- so many bytes of a number, at the next multiple of an alignment
pub record Leaf : Type 0 where
  pub align : ℕ
  pub width : ℕ
  pub value : ℕ

-- a leaf without a byte: what follows starts at a multiple of the alignment
abbrev pub gap : ℕ → Leaf
gap align = record { align = align; width = 0; value = 0 }

-- a number of so many bytes, aligned to its size
abbrev pub whole : ℕ → ℕ → Leaf
whole width value = record { align = width; width = width; value = value }

-- one byte, where the last leaf ends
abbrev pub single : ℕ → Leaf
single byte = record { align = 1; width = 1; value = byte }

-- a number's bits in so many bytes, two's complement
abbrev pub bits_of : ℕ → ℤ → ℕ
bits_of width (pos n) = n
bits_of width (negsuc n) = 2 ^ (8 * width) - 1 - n

-- the leaves of a value, put onto those that stand before it: a struct begins at its alignment, its fields
-- follow, and its end is a multiple of its alignment
abbrev mutual
  pub value_onto : TheType → Datum → List Leaf → List Leaf
  value_onto (scalar s) (number z) before = whole (scalar_size s) (bits_of (scalar_size s) z) ∷ before
  value_onto (enumeration n) (number z) before = whole 4 (bits_of 4 z) ∷ before
  value_onto (structure ts) (fields ds) before = gap (greatest_align ts) ∷ fields_onto ts ds (gap (greatest_align ts) ∷ before)
  value_onto (array n t) (elements ds) before = elements_onto t ds before
  value_onto t d before = before

  -- the fields of a struct, in order
  pub fields_onto : TheTypes → Data → List Leaf → List Leaf
  fields_onto (field t ts) (also d ds) before = fields_onto ts ds (value_onto t d before)
  fields_onto ts ds before = before

  -- elements of one type, in order
  pub elements_onto : TheType → Data → List Leaf → List Leaf
  elements_onto t nothing_more before = before
  elements_onto t (also d ds) before = elements_onto t ds (value_onto t d before)

abbrev pub bytes_onto : List ℕ → List Leaf → List Leaf
bytes_onto [] before = before
bytes_onto (b ∷ bs) before = bytes_onto bs (single b ∷ before)

-- an argument: a string and a sized array begin with their length, a number of 8 bytes
abbrev pub argument_onto : TheArgType → Datum → List Leaf → List Leaf
argument_onto (fixed t) d before = value_onto t d before
argument_onto (text max) (string bytes) before = bytes_onto bytes (whole 8 (length bytes) ∷ before)
argument_onto (sized max t) (elements ds) before = elements_onto t ds (whole 8 (count_of ds) ∷ before)
argument_onto t d before = before

-- what follows a string or a sized array starts at a multiple of 8
abbrev pub start_onto : Bool → List Leaf → List Leaf
start_onto after_dynamic before = if after_dynamic then gap 8 ∷ before else before

-- arguments one after another; the first answer says whether a string or a sized array stands before them
abbrev pub arguments_onto : Bool → List Argument → List Leaf → List Leaf
arguments_onto after_dynamic [] before = before
arguments_onto after_dynamic (a ∷ rest) before =
    arguments_onto (is_dynamic a.0) rest (argument_onto a.0 a.1 (start_onto after_dynamic before))

abbrev pub argument_types : TheInterface → ℕ → List TheArgType
argument_types i msg = types_of (slice_get i.messages msg)

-- the leaves of a call, the last one first: its arguments in the plan's order
abbrev pub leaves : PlanNo → TheInterface → TheCall → List Leaf
leaves plan i c = arguments_onto false (arranged kind plan (zip (argument_types i c.msg) c.args)) []

-- a number's type: a scalar or an enum
abbrev pub is_number_type : TheArgType → Bool
is_number_type (fixed (scalar s)) = true
is_number_type (fixed (enumeration n)) = true
is_number_type t = false
