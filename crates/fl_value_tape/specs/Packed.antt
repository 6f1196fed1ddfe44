-- The packed tape of a call, in bytes: its numbers side by side in the plan's order of arguments, each little-endian in as
-- many bytes as its type has, a length in 8. No zeros stand between. As a list of numbers it is the tape of `fl_value_data`.
use Rattle.std.specs.Prelude.{ℕ, List, [], ◌++◌, length}
use Rattle.std.specs.List.{flat_map}
use Rattle.std.specs.Int.{bytes_low_first}
use Rattle.fl_interface.specs.Interface.{TheType, scalar, enumeration, structure, array, TheTypes, field}
use Rattle.fl_interface.specs.Interface.{TheArgType, fixed, text, sized, TheInterface}
use Rattle.fl_interface.specs.Sizes.{scalar_size}
use Rattle.fl_value_data.specs.declared.value.PlanNo.{PlanNo}
use Rattle.fl_value_data.specs.Value.{Datum, number, string, elements, fields, Data, nothing_more, also, TheCall}
use Rattle.fl_value_data.specs.Fits.{scalar_bits, count_of}
use Rattle.fl_value_data.specs.Plan.{arranged, of_rank}
use Rattle.fl_value_data.specs.Tape.{raw_of, Argument, kind, arguments_of}

-- so many low bytes of a number, the lowest first
abbrev pub low_bytes : ℕ → ℕ → List ℕ
low_bytes width x = bytes_low_first 0 width x

abbrev mutual
  pub value_packed : TheType → Datum → List ℕ
  value_packed (scalar s) (number z) = low_bytes (scalar_size s) (raw_of (scalar_bits s) z)
  value_packed (enumeration n) (number z) = low_bytes 4 (raw_of 32 z)
  value_packed (structure ts) (fields ds) = fields_packed ts ds
  value_packed (array n t) (elements ds) = elements_packed t ds
  value_packed t d = []

  pub fields_packed : TheTypes → Data → List ℕ
  fields_packed (field t ts) (also d ds) = value_packed t d ++ fields_packed ts ds
  fields_packed ts ds = []

  pub elements_packed : TheType → Data → List ℕ
  elements_packed t nothing_more = []
  elements_packed t (also d ds) = value_packed t d ++ elements_packed t ds

-- a string and a sized array begin with their length
abbrev pub argument_packed : TheArgType → Datum → List ℕ
argument_packed (fixed t) d = value_packed t d
argument_packed (text max) (string bytes) = low_bytes 8 (length bytes) ++ bytes
argument_packed (sized max t) (elements ds) = low_bytes 8 (count_of ds) ++ elements_packed t ds
argument_packed t d = []

abbrev pub packed_argument : Argument → List ℕ
packed_argument a = argument_packed a.0 a.1

-- the bytes of a rank's arguments, in declared order
abbrev pub rank_packed : PlanNo → ℕ → List Argument → List ℕ
rank_packed plan rank args = flat_map packed_argument (of_rank kind plan rank args)

abbrev pub packed_of : PlanNo → TheInterface → TheCall → List ℕ
packed_of plan i c = flat_map packed_argument (arranged kind plan (arguments_of i c))
