-- How an image spells an interface and its code under a plan: its fields in order, numbers low byte first.
use Rattle.std.specs.Prelude.{ℕ, ◌/◌, ◌%◌, ◌&&◌, Bool, List, [], ◌∷◌, ◌++◌, length, map}
use Rattle.std.specs.List.{flat_map, list_all}
use Rattle.fl_interface.specs.declared.interface.Scalar.{Scalar}
use Rattle.fl_interface.specs.declared.interface.Scalar.TheVariants as scalars
use Rattle.fl_interface.specs.Interface.{TheType, scalar, enumeration, structure, array, TheTypes, no_more, field, TheArgType, fixed}
use Rattle.fl_interface.specs.Interface.{text, sized, TheMessage, TheInterface}
use Rattle.fl_interface.specs.Limits.{count_of, is_within_limits}
pub use Rattle.fl_lex.specs.Words.{is_word, is_name}
pub use Rattle.fl_check.specs.Texts.{has_short_enums, have_short_enums, argument_has_short_enums, is_message_spellable, is_spellable}
use Rattle.fl_value_data.specs.declared.value.PlanNo.{PlanNo}
use Rattle.fl_value_data.specs.declared.value.PlanNo.TheVariants.{One, Two}
use Rattle.fl_stub.specs.declared.op.Op.{Op}
use Rattle.fl_stub.specs.declared.op.Op.TheVariants.{Emit, Pad, Align, Length, Times, Each, Back, End, Read, ReadBool, ReadEnum}
use Rattle.fl_stub.specs.declared.op.Op.TheVariants.{ReadChar, Skip, ReadLength, ReadText, Done}
use Rattle.fl_stub.specs.declared.op.Column.TheVariants.{Send, Receive}
use Rattle.fl_compile.specs.Compiled.{message_code}

-- ---- numbers and names

-- a number in one byte, in two, and in four
abbrev pub one : ℕ → List ℕ
one n = n % 256 ∷ []

abbrev pub two : ℕ → List ℕ
two n = n % 256 ∷ n / 256 % 256 ∷ []

abbrev pub four : ℕ → List ℕ
four n = two n ++ two (n / 65536)

-- a name: its length, and its bytes
abbrev pub name_image : List ℕ → List ℕ
name_image name = one (length name) ++ name

-- ---- types

-- the byte of a number, a bool, a char, an iref or an errval: 1 to 15
abbrev pub scalar_code : Scalar → ℕ
scalar_code scalars.Uint8 = 1
scalar_code scalars.Int8 = 2
scalar_code scalars.Bool = 3
scalar_code scalars.Char = 4
scalar_code scalars.Uint16 = 5
scalar_code scalars.Int16 = 6
scalar_code scalars.Uint32 = 7
scalar_code scalars.Int32 = 8
scalar_code scalars.Iref = 9
scalar_code scalars.Uint64 = 10
scalar_code scalars.Int64 = 11
scalar_code scalars.Uintptr = 12
scalar_code scalars.Intptr = 13
scalar_code scalars.Size = 14
scalar_code scalars.Errval = 15

abbrev mutual
  -- a type: its code, its count, what it is made of
  pub type_image : TheType → List ℕ
  type_image (scalar s) = one (scalar_code s)
  type_image (enumeration n) = one 16 ++ two n
  type_image (structure ts) = one 17 ++ (one (count_of ts) ++ fields_image ts)
  type_image (array n t) = one 18 ++ (two n ++ type_image t)

  -- a struct's fields, one after another
  pub fields_image : TheTypes → List ℕ
  fields_image no_more = []
  fields_image (field t ts) = type_image t ++ fields_image ts

-- an argument's type; a string and a sized array have a code of their own, and then their bound, and the array its element's type
abbrev pub argument_image : TheArgType → List ℕ
argument_image (fixed t) = type_image t
argument_image (text most) = one 32 ++ two most
argument_image (sized most t) = one 33 ++ (two most ++ type_image t)

-- a message: its name, and its arguments' types
abbrev pub message_image : TheMessage → List ℕ
message_image m = name_image m.name ++ (one (length m.args) ++ flat_map argument_image m.args)

-- an interface: its name, the number of its messages, and these
abbrev pub interface_image : TheInterface → List ℕ
interface_image x = name_image x.name ++ (two (length x.messages) ++ flat_map message_image x.messages)

-- ---- code

-- 1 to 8 are of send code, 3 and 5 to 7 of these of both, and 17 to 24 of receive code alone
abbrev pub op_code : Op → ℕ
op_code (Emit n) = 1
op_code (Pad n) = 2
op_code Align = 3
op_code (Length n) = 4
op_code (Times n) = 5
op_code Each = 6
op_code Back = 7
op_code End = 8
op_code (Read n) = 17
op_code ReadBool = 18
op_code (ReadEnum n) = 19
op_code ReadChar = 20
op_code (Skip n) = 21
op_code (ReadLength n) = 22
op_code ReadText = 23
op_code Done = 24

-- 0 where the op has none
abbrev pub operand_of : Op → ℕ
operand_of (Emit n) = n
operand_of (Pad n) = n
operand_of (Length n) = n
operand_of (Times n) = n
operand_of (Read n) = n
operand_of (ReadEnum n) = n
operand_of (Skip n) = n
operand_of (ReadLength n) = n
operand_of op = 0

-- an instruction: its op, and its operand
abbrev pub op_image : Op → List ℕ
op_image op = one (op_code op) ++ two (operand_of op)

-- the number of instructions, and these
abbrev pub code_image : List Op → List ℕ
code_image ops = four (length ops) ++ flat_map op_image ops

-- the two codes of a message
pub record Codes : Type 0 where
  pub send : List Op
  pub receive : List Op

-- the send code, and then the receive code
abbrev pub codes_image : Codes → List ℕ
codes_image codes = code_image codes.send ++ code_image codes.receive

-- the compiler's
abbrev pub codes_of : PlanNo → TheMessage → Codes
codes_of plan m = record { send = message_code Send plan m; receive = message_code Receive plan m }

-- ---- whole images

-- what the fields of an image say: a plan, an interface, and code of whatever kind for each message
pub record Fields : Type 0 where
  pub plan : PlanNo
  pub interface : TheInterface
  pub codes : List Codes

-- the bytes F, L, N, D
abbrev pub magic : List ℕ
magic = 70 ∷ 76 ∷ 78 ∷ 68 ∷ []

-- the number in the version field: it tells the plan
abbrev pub version_of : PlanNo → ℕ
version_of One = 1
version_of Two = 2

-- the bytes of these fields: magic, version, interface, and the codes of each message in order
abbrev pub fields_spelled : Fields → List ℕ
fields_spelled f = magic ++ (two (version_of f.plan) ++ (interface_image f.interface ++ flat_map codes_image f.codes))

-- an interface under a plan, with the compiler's code for each message
abbrev pub compiled : PlanNo → TheInterface → Fields
compiled plan x = record { plan = plan; interface = x; codes = map (codes_of plan) x.messages }

-- the image of an interface under a plan
abbrev pub image_of : PlanNo → TheInterface → List ℕ
image_of plan x = fields_spelled (compiled plan x)

-- ---- which interfaces have an image

-- a message whose enums have at most 65,535 enumerators
abbrev pub message_has_short_enums : TheMessage → Bool
message_has_short_enums m = list_all argument_has_short_enums m.args

-- an interface whose enums have room in an image, as those of every interface of a text
abbrev pub is_writable : TheInterface → Bool
is_writable x = list_all message_has_short_enums x.messages

-- an interface that has an image: within the limits, and an image can spell it, since its names are words of 1 to 64 bytes, as
-- those of each interface in memory, and its enums short
abbrev pub has_image : TheInterface → Bool
has_image x = is_within_limits x && is_spellable x
