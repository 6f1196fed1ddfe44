-- The tape of a call: its scalars' bits and its lengths, one number after another, in the plan's order of
-- arguments. Stub code reads a call from its tape, and writes a tape for the call that it takes.
use Rattle.std.specs.Prelude.{ℕ, ℤ, pos, negsuc, ◌-◌, ◌%◌, ◌^◌, List, [], ◌∷◌, ◌++◌, length, map, slice_get, Option, Some, None}
use Rattle.std.specs.List.{zip, flat_map}
use Rattle.fl_interface.specs.Interface.{TheType, scalar, enumeration, structure, array, TheTypes, field}
use Rattle.fl_interface.specs.Interface.{TheArgType, fixed, text, sized, TheMessage, TheInterface}
use Rattle.fl_value_data.specs.declared.value.PlanNo.{PlanNo}
use Rattle.fl_interface.specs.Interface.{arg_type_of}
use Rattle.fl_interface.specs.declared.interface.ArgType.{ArgType}
use Rattle.fl_value_data.specs.declared.value.Value.{Value}
use Rattle.fl_value_data.specs.Value.{datum_of, Datum, number, string, elements, fields, Data, nothing_more, also, TheCall}
use Rattle.fl_value_data.specs.Fits.{scalar_bits, count_of}
use Rattle.fl_value_data.specs.Plan.{arranged, of_rank}

-- a number's bits as an unsigned number, two's complement
abbrev pub raw_of : ℕ → ℤ → ℕ
raw_of bits (pos n) = n % 2 ^ bits
raw_of bits (negsuc n) = 2 ^ bits - 1 - n % 2 ^ bits

abbrev mutual
  pub value_tape : TheType → Datum → List ℕ
  value_tape (scalar s) (number z) = raw_of (scalar_bits s) z ∷ []
  value_tape (enumeration n) (number z) = raw_of 32 z ∷ []
  value_tape (structure ts) (fields ds) = fields_tape ts ds
  value_tape (array n t) (elements ds) = elements_tape t ds
  value_tape t d = []

  pub fields_tape : TheTypes → Data → List ℕ
  fields_tape (field t ts) (also d ds) = value_tape t d ++ fields_tape ts ds
  fields_tape ts ds = []

  pub elements_tape : TheType → Data → List ℕ
  elements_tape t nothing_more = []
  elements_tape t (also d ds) = value_tape t d ++ elements_tape t ds

-- a string and a sized array begin with their length
abbrev pub argument_tape : TheArgType → Datum → List ℕ
argument_tape (fixed t) d = value_tape t d
argument_tape (text max) (string bytes) = length bytes ∷ bytes
argument_tape (sized max t) (elements ds) = count_of ds ∷ elements_tape t ds
argument_tape t d = []

-- an argument beside its type
abbrev pub Argument : Type 0
Argument = TheArgType × Datum

-- arguments' types beside values, as the code has them
abbrev pub beside : List ArgType → List Value → List Argument
beside types values = zip (map arg_type_of types) (map datum_of values)

abbrev pub kind : Argument → TheArgType
kind a = a.0

abbrev pub values_of : List Argument → List Datum
values_of args = map (λ (a : Argument). a.1) args

abbrev pub tape_of_argument : Argument → List ℕ
tape_of_argument a = argument_tape a.0 a.1

-- the numbers of a rank's arguments, in declared order
abbrev pub rank_tape : PlanNo → ℕ → List Argument → List ℕ
rank_tape plan rank args = flat_map tape_of_argument (of_rank kind plan rank args)

-- the types of a message's arguments; none where there is no such message
abbrev pub types_of : Option TheMessage → List TheArgType
types_of None = []
types_of (Some m) = m.args

abbrev pub arguments_of : TheInterface → TheCall → List Argument
arguments_of i c = zip (types_of (slice_get i.messages c.msg)) c.args

abbrev pub tape_of : PlanNo → TheInterface → TheCall → List ℕ
tape_of plan i c = flat_map tape_of_argument (arranged kind plan (arguments_of i c))
