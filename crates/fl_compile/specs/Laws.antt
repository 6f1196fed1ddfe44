-- What the compiler's code does: laws of every interface that is within the limits and whose numbers fit 32-bit words, as
-- those of every accepted interface do.
use Rattle.std.specs.Prelude.{◌≡◌, ◌↔◌, ℕ, true, List, slice_get, Some}
use Rattle.fl_base.specs.declared.fragment.Frag.{Frag}
use Rattle.fl_interface.specs.Interface.{TheMessage, TheInterface}
use Rattle.fl_interface.specs.Limits.{is_within_limits}
use Rattle.fl_value_data.specs.Value.{TheCall}
use Rattle.fl_value_data.specs.Fits.{fits_of}
use Rattle.fl_value_data.specs.Tape.{tape_of}
use Rattle.fl_value_data.specs.declared.value.PlanNo.{PlanNo}
use Rattle.fl_wire.specs.Payload.{payload_of}
use Rattle.fl_interface.specs.Counts.{interface_words_fit}
use Rattle.fl_wire.specs.Wrong.{fault_at, HasFault, IsWrongAt}
use Rattle.fl_wire.specs.declared.fault.WireFault.{WireFault}
use Rattle.fl_wire.specs.declared.fault.WireFault.TheVariants.{NotZero, OutOfType, TooLong}
use Rattle.fl_stub.specs.declared.mark.ByteKind.{ByteKind}
use Rattle.fl_stub.specs.declared.mark.ByteKind.TheVariants.{Length, Number, Zero}
use Rattle.fl_stub.specs.declared.op.Column.{Column}
use Rattle.fl_stub.specs.declared.op.Column.TheVariants.{Send, Receive}
use Rattle.fl_stub.specs.Structure.{IsCode}
use Rattle.fl_stub.specs.Meaning.{Turns}
use Rattle.fl_stub.specs.Marks.{marks_of, mark_at}
use Rattle.fl_compile.specs.Compiled.{message_block, message_code}

-- an interface within the limits, and a message of it
pub record HasMessage (i : TheInterface) (msg : ℕ) (m : TheMessage) : Type 0 where
  pub within : is_within_limits i ≡ true
  pub words : interface_words_fit i ≡ true
  pub message : slice_get i.messages msg ≡ Some m

-- a fitting call of a message, which has this tape and this payload
pub record Carries (plan : PlanNo) (i : TheInterface) (msg : ℕ) (tape bytes : List ℕ) (c : TheCall) : Type 0 where
  pub message : c.msg ≡ msg
  pub fits : fits_of i c ≡ true
  pub tape_is : tape ≡ tape_of plan i c
  pub bytes_are : bytes ≡ payload_of plan i c

-- send code turns the tape of a fitting call into its payload
abbrev pub SendsCalls : Type 0
SendsCalls = (plan : PlanNo) (i : TheInterface) (m : TheMessage) (c : TheCall) → HasMessage i c.msg m → fits_of i c ≡ true
    → Turns (message_block Send plan m) (tape_of plan i c) (payload_of plan i c)

-- receive code takes the tape of a fitting call from its payload, and nothing else from anything
abbrev pub TakesCalls : Type 0
TakesCalls = (plan : PlanNo) (i : TheInterface) (msg : ℕ) (m : TheMessage) (tape bytes : List ℕ) → HasMessage i msg m
    → Turns (message_block Receive plan m) tape bytes ↔ ((c : TheCall) × Carries plan i msg tape bytes c)

-- the code of every message is code: so it is verified
abbrev pub CompilesToCode : Type 0
CompilesToCode = (column : Column) (plan : PlanNo) (i : TheInterface) (msg : ℕ) (m : TheMessage) → HasMessage i msg m
    → IsCode column (message_code column plan m) (message_block column plan m)

-- the fault of a byte that no payload goes on with, by what stands there
abbrev pub fault_of : ByteKind → WireFault
fault_of Length = TooLong
fault_of Number = OutOfType
fault_of Zero = NotZero

-- receive code tells the fault of each byte of a fitting call's payload, and of those behind it
abbrev pub TellsFaults : Type 0
TellsFaults = (plan : PlanNo) (i : TheInterface) (m : TheMessage) (c : TheCall) → HasMessage i c.msg m → fits_of i c ≡ true
    → (p : ℕ) → fault_at plan i c p ≡ fault_of (mark_at (marks_of (message_block Receive plan m) (tape_of plan i c)) p)

-- a fragment that can't follow those since the last whole call has one first fault
abbrev pub OneFault : Type 0
OneFault = (plan : PlanNo) (i : TheInterface) (rest : List Frag) (f : Frag) (a b : WireFault) → is_within_limits i ≡ true → interface_words_fit i ≡ true
    → HasFault plan i rest f a → HasFault plan i rest f b → a ≡ b

-- and so has a list of fragments that isn't read as calls and a rest
abbrev pub OneRefusal : Type 0
OneRefusal = (plan : PlanNo) (i : TheInterface) (frags : List Frag) (a b : WireFault) → is_within_limits i ≡ true → interface_words_fit i ≡ true
    → IsWrongAt plan i frags a → IsWrongAt plan i frags b → a ≡ b
