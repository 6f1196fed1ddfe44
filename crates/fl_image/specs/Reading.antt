-- Reading an image from front to back, field by field: what its fields say, or the first fault.
use Rattle.std.specs.Prelude.{◌≡◌, ◌⊎◌, ℕ, zero, suc, ◌+◌, ◌*◌, ◌==◌, ◌&&◌, Bool, not, nat_le, nat_lt, if◌then◌else◌, List}
use Rattle.std.specs.Prelude.{[], ◌∷◌, ◌++◌, length, map, take, drop, Option, Some, None, Result, Ok, Err}
use Rattle.fl_interface.specs.declared.interface.Scalar.{Scalar}
use Rattle.fl_interface.specs.declared.interface.Scalar.TheVariants.{Uint8, Int8, Bool as BoolType, Char, Uint16, Int16, Uint32}
use Rattle.fl_interface.specs.declared.interface.Scalar.TheVariants.{Int32, Iref, Uint64, Int64, Uintptr, Intptr, Size, Errval}
use Rattle.fl_interface.specs.Interface.{TheType, scalar, enumeration, structure, array, TheArgType, fixed, text, sized, TheMessage, TheInterface, fields_from}
use Rattle.fl_interface.specs.Limits.{is_among}
use Rattle.fl_interface.specs.Limits.{is_message_within}
use Rattle.fl_value_data.specs.declared.value.PlanNo.{PlanNo}
use Rattle.fl_value_data.specs.declared.value.PlanNo.TheVariants.{One, Two}
use Rattle.fl_stub.specs.declared.op.Op.{Op}
use Rattle.fl_stub.specs.declared.op.Op.TheVariants as ops
use Rattle.fl_stub.specs.declared.op.Column.{Column}
use Rattle.fl_stub.specs.declared.op.Column.TheVariants.{Send, Receive}
use Rattle.fl_stub.specs.Structure.{is_within, is_operand_within}
use Rattle.fl_image.specs.declared.fault.BadImage.{BadImage}
use Rattle.fl_image.specs.declared.fault.BadImage.TheVariants.{OtherMagic, OtherVersion, EndsEarly, BadField, OtherCode, BytesLeftOver}
use Rattle.fl_image.specs.declared.fault.ImageFault.{ImageFault}
use Rattle.fl_image.specs.declared.fault.ImageFault.TheVariants as faults
use Rattle.fl_image.specs.Image.{Codes, Fields, compiled, scalar_code, op_code, operand_of, is_word}

-- a value and the bytes behind it, or the first fault
abbrev pub Read : Type 0 → Type 0
Read A = Result (A × List ℕ) BadImage

-- what the second reads begins where the first ended; the first fault is the answer
infixl 10 ◌>>=◌
abbrev pub ◌>>=◌ : {A B : Type 0} → Read A → (A × List ℕ → Read B) → Read B
(Ok p) >>= f = f p
(Err e) >>= f = Err e

-- reading gives the fault that a function returned, unless memory ran out
abbrev pub Fails : {Y : Type 0} → ImageFault → Result Y BadImage → Type 0
Fails faults.Memory read = Unit {0}
Fails (faults.Refused e) read = read ≡ Err e

-- What a function returned, seen by view, is what reading gives, unless memory ran out.
abbrev pub Gives : {X Y : Type 0} → (X → Y) → Result X ImageFault → Result Y BadImage → Type 0
Gives view (Ok x) read = read ≡ Ok (view x)
Gives view (Err e) read = Fails e read

-- a field that is in its range, or else is bad
abbrev pub in_range : {A : Type 0} → Bool → A × List ℕ → Read A
in_range test p = if test then Ok p else Err BadField

-- the value behind a code that is known, or else bad
abbrev pub known : {A : Type 0} → Option A → List ℕ → Read A
known None rest = Err BadField
known (Some x) rest = Ok (x, rest)

-- a list with so many more behind it, each read after those before it
abbrev pub more_at : {A : Type 0} → (List A → List ℕ → Read A) → ℕ → List A → List ℕ → Read (List A)
more_at read zero before bytes = Ok (before, bytes)
more_at read (suc n) before bytes = read before bytes >>= λ x. more_at read n (before ++ x.0 ∷ []) x.1

-- so many of one kind
abbrev pub many_at : {A : Type 0} → (List ℕ → Read A) → ℕ → List ℕ → Read (List A)
many_at read n bytes = more_at (λ before. read) n [] bytes

-- a fault of the bytes, and not that memory ran out
abbrev pub IsOfBytes : ImageFault → Type 0
IsOfBytes faults.Memory = ⊥
IsOfBytes (faults.Refused e) = Unit {0}

-- where memory ran out, this had been read without a fault
abbrev pub Behind : {A : Type 0} → ImageFault → Read A → Type 0
Behind {A} faults.Memory read = (x : A × List ℕ) × (read ≡ Ok x)
Behind (faults.Refused e) read = Unit {0}

-- ---- numbers and names: where the bytes end within a field, they end early

-- a number of one byte, of two, and of four, low byte first
unfoldable pub one_at : List ℕ → Read ℕ
one_at [] = Err EndsEarly
one_at (b ∷ rest) = Ok (b, rest)

unfoldable pub two_at : List ℕ → Read ℕ
two_at bytes = do
  low ← one_at bytes
  high ← one_at low.1
  Ok (low.0 + 256 * high.0, high.1)

unfoldable pub four_at : List ℕ → Read ℕ
four_at bytes = do
  low ← two_at bytes
  high ← two_at low.1
  Ok (low.0 + 65536 * high.0, high.1)

-- so many bytes that form a word
unfoldable pub word_at : ℕ → List ℕ → Read (List ℕ)
word_at len bytes =
    if nat_lt (length bytes) len then Err EndsEarly
    else in_range (is_word (take len bytes)) (take len bytes, drop len bytes)

-- a length of 1 to 64
unfoldable pub len_at : List ℕ → Read ℕ
len_at bytes = do
  len ← one_at bytes
  in_range (is_within 64 len.0) len

-- a length, and a word of so many bytes
unfoldable pub name_at : List ℕ → Read (List ℕ)
name_at bytes = do
  len ← len_at bytes
  word_at len.0 len.1

-- ---- types

-- the first thing with a code
abbrev pub with_code : {A : Type 0} → (A → ℕ) → ℕ → List A → Option A
with_code code_of code [] = None
with_code code_of code (x ∷ xs) = if code == code_of x then Some x else with_code code_of code xs

abbrev pub all_scalars : List Scalar
all_scalars =
    Uint8 ∷ Int8 ∷ BoolType ∷ Char ∷ Uint16 ∷ Int16 ∷ Uint32 ∷ Int32 ∷ Iref ∷ Uint64 ∷ Int64 ∷ Uintptr ∷ Intptr
    ∷ Size ∷ Errval ∷ []

-- the one of the 15 that has this code; none has a code of 0 or above 15
unfoldable pub scalar_with : ℕ → Option Scalar
scalar_with code = with_code scalar_code code all_scalars

-- what follows the code of an enum: its count
unfoldable pub enumeration_at : List ℕ → Read TheType
enumeration_at bytes = do
  count ← two_at bytes
  Ok (enumeration count.0, count.1)

-- one of those 15: nothing follows its code; a code that none of them has is bad
unfoldable pub scalar_at : ℕ → List ℕ → Read TheType
scalar_at code bytes = do
  kind ← known (scalar_with code) bytes
  Ok (scalar kind.0, kind.1)

-- a count, and so many fields, each read so; of an array the count, and the type of its elements
unfoldable pub structure_at : (List ℕ → Read TheType) → List ℕ → Read TheType
structure_at inner bytes = do
  count ← one_at bytes
  fields ← many_at inner count.0 count.1
  Ok (structure (fields_from fields.0), fields.1)

unfoldable pub array_at : (List ℕ → Read TheType) → List ℕ → Read TheType
array_at inner bytes = do
  count ← two_at bytes
  element ← inner count.1
  Ok (array count.0 element.0, element.1)

-- what follows a type's code; inner reads a type inside this one
abbrev pub coded_at : (List ℕ → Read TheType) → ℕ → List ℕ → Read TheType
coded_at inner code rest =
    if code == 16 then enumeration_at rest
    else (if code == 17 then structure_at inner rest
    else (if code == 18 then array_at inner rest
    else scalar_at code rest))

-- a type where so many may stand in one another; one more is bad at its first byte
unfoldable pub type_at : ℕ → List ℕ → Read TheType
type_at zero bytes = one_at bytes >>= λ code. Err BadField
type_at (suc left) bytes = one_at bytes >>= λ code. coded_at (type_at left) code.0 code.1

-- what follows the code of a string: its bound; of a sized array: its bound, and its element's type
unfoldable pub text_at : List ℕ → Read TheArgType
text_at bytes = do
  most ← two_at bytes
  Ok (text most.0, most.1)

unfoldable pub sized_at : List ℕ → Read TheArgType
sized_at bytes = do
  most ← two_at bytes
  element ← type_at 17 most.1
  Ok (sized most.0 element.0, element.1)

-- a type from its code on
unfoldable pub fixed_at : List ℕ → Read TheArgType
fixed_at bytes = do
  type ← type_at 18 bytes
  Ok (fixed type.0, type.1)

-- an argument's type, at most 18 types in one another
unfoldable pub argument_at : List ℕ → Read TheArgType
argument_at [] = Err EndsEarly
argument_at (code ∷ rest) =
    if code == 32 then text_at rest else (if code == 33 then sized_at rest else fixed_at (code ∷ rest))

-- ---- messages

-- a number of arguments, 0 to 32
unfoldable pub argument_count_at : List ℕ → Read ℕ
argument_count_at bytes = do
  count ← one_at bytes
  in_range (nat_le count.0 32) count

-- the number of arguments, and each one's type
unfoldable pub arguments_at : List ℕ → Read (List TheArgType)
arguments_at bytes = do
  count ← argument_count_at bytes
  many_at argument_at count.0 count.1

-- a name and arguments, each field in its own range, if it has one; whether they keep the limits isn't told yet
unfoldable pub message_at : List ℕ → Read TheMessage
message_at bytes = do
  name ← name_at bytes
  args ← arguments_at name.1
  Ok (record { name = name.0; args = args.0 }, args.1)

-- a message within its limits, with a name that none of these has
abbrev pub is_next : List TheMessage → TheMessage → Bool
is_next before m = is_message_within m && not (is_among (map (λ (b : TheMessage). b.name) before) m.name)

-- a message after these; whether it keeps the limits is told at its end
unfoldable pub message_after : List TheMessage → List ℕ → Read TheMessage
message_after before bytes = do
  m ← message_at bytes
  in_range (is_next before m.0) m

-- a number of messages, 0 to 256
unfoldable pub message_count_at : List ℕ → Read ℕ
message_count_at bytes = do
  count ← two_at bytes
  in_range (nat_le count.0 256) count

-- the number of messages, and each of them
unfoldable pub messages_at : List ℕ → Read (List TheMessage)
messages_at bytes = do
  count ← message_count_at bytes
  more_at message_after count.0 [] count.1

-- ---- code

-- the ops of a column with an operand
abbrev pub ops_of : Column → ℕ → List Op
ops_of Send n =
    ops.Emit n ∷ ops.Pad n ∷ ops.Align ∷ ops.Length n ∷ ops.Times n ∷ ops.Each ∷ ops.Back ∷ ops.End ∷ []
ops_of Receive n =
    ops.Align ∷ ops.Times n ∷ ops.Each ∷ ops.Back ∷ ops.Read n ∷ ops.ReadBool ∷ ops.ReadEnum n ∷ ops.ReadChar
    ∷ ops.Skip n ∷ ops.ReadLength n ∷ ops.ReadText ∷ ops.Done ∷ []

-- the op of a column that has this code, with this operand where it has one
unfoldable pub op_with : Column → ℕ → ℕ → Option Op
op_with column code n = with_code op_code code (ops_of column n)

-- the operand is in its range, and no operand is 0
abbrev pub takes_operand : ℕ → Op → Bool
takes_operand n op = is_operand_within op && (operand_of op == n)

-- an instruction of a column: its op, and then the operand of this op
unfoldable pub op_at : Column → List ℕ → Read Op
op_at column bytes = do
  code ← one_at bytes
  op ← known (op_with column code.0 0) code.1
  operand ← two_at op.1
  with_operand ← known (op_with column code.0 operand.0) operand.1
  in_range (takes_operand operand.0 with_operand.0) with_operand

-- the number of instructions, and each of them
unfoldable pub code_at : Column → List ℕ → Read (List Op)
code_at column bytes = do
  count ← four_at bytes
  many_at (op_at column) count.0 count.1

-- a message's send code, and then its receive code
unfoldable pub codes_at : List ℕ → Read Codes
codes_at bytes = do
  send ← code_at Send bytes
  receive ← code_at Receive send.1
  Ok (record { send = send.0; receive = receive.0 }, receive.1)

-- ---- whole images

-- the bytes F, L, N, D, as one number
unfoldable pub magic_at : List ℕ → Read (Unit {0})
magic_at bytes = do
  number ← four_at bytes
  if number.0 == 1145982022 then Ok (tt, number.1) else Err OtherMagic

-- the plan that the version tells: 1 or 2
unfoldable pub plan_at : List ℕ → Read PlanNo
plan_at bytes = do
  version ← two_at bytes
  if version.0 == 1 then Ok (One, version.1) else (if version.0 == 2 then Ok (Two, version.1) else Err OtherVersion)

-- the start of an image, before anything grows
unfoldable pub start_at : List ℕ → Read (List ℕ)
start_at bytes = do
  start ← magic_at bytes
  plan ← plan_at start.1
  name_at plan.1

-- its name, and its messages
unfoldable pub interface_at : List ℕ → Read TheInterface
interface_at bytes = do
  name ← name_at bytes
  messages ← messages_at name.1
  Ok (record { name = name.0; messages = messages.0 }, messages.1)

-- magic, version, interface, and the codes of each of its messages; bytes may be left behind them
unfoldable pub fields_at : List ℕ → Read Fields
fields_at bytes = do
  start ← magic_at bytes
  plan ← plan_at start.1
  interface ← interface_at plan.1
  codes ← many_at codes_at (length interface.0.messages) interface.1
  Ok (record { plan = plan.0; interface = interface.0; codes = codes.0 }, codes.1)

-- all of the bytes
unfoldable pub all_of : List ℕ → Result Fields BadImage
all_of bytes = elim (fields_at bytes) as (λ _. Result Fields BadImage) [
  | Err e ↦ Err e
  | Ok p ↦ if length p.1 == 0 then Ok p.0 else Err BytesLeftOver
]

-- the code is the compiler's
abbrev pub IsCompiled : Fields → Type 0
IsCompiled f = f ≡ compiled f.plan f.interface

-- The first fault: one of reading, or at the end code that isn't the compiler's.
abbrev pub FirstFault : List ℕ → BadImage → Type 0
FirstFault bytes fault = (all_of bytes ≡ Err fault) ⊎ ((fault ≡ OtherCode) × (f : Fields) × (all_of bytes ≡ Ok f) × (IsCompiled f → ⊥))
