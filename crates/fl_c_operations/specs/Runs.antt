-- What each operation does at a program alone and at stubs alone, exactly: by cases on what it came to. A run goes from h to t.
use Rattle.std.specs.Prelude.{◌≡◌, ◌≢◌, ◌⊎◌, ℕ, true, false, Bool, List, [], ◌∷◌, length, Option, Some, None, Result, Ok, Err}
use Rattle.fl_base.specs.declared.fragment.Frag.{Frag}
use Rattle.fl_base.specs.declared.identity.MsgNo.{MsgNo}
use Rattle.fl_value_data.specs.declared.value.Call.{Call}
use Rattle.fl_value_data.specs.Value.{TheCall, call_of}
use Rattle.fl_value_data.specs.Fits.{fits_of}
use Rattle.fl_layout.specs.Layouts.{payload_length, tape_length, IsGreatest}
use Rattle.fl_wire.specs.Payload.{frags_of}
use Rattle.fl_wire.specs.Reading.{Means}
use Rattle.fl_stub.specs.declared.op.Column.TheVariants.{Send}
use Rattle.fl_stub.specs.Code.{TheCode}
use Rattle.fl_compile.specs.declared.program.Program.{Program}
use Rattle.fl_compile.specs.Programs.{TheProgram, program_of, code_in}
use Rattle.fl_machine.specs.Sending.{TheSending, frags_left, RunsOn}
use Rattle.fl_machine.specs.Receiving.{TheReceiving, plan_in, interface_in, Feeds}
use Rattle.fl_machine.specs.declared.intake.Fed.TheVariants.{Part, Whole}
use Rattle.fl_endpoint.specs.declared.fault.EndFault.TheVariants.{Busy, UnknownMessage, Memory, Wire}
use Rattle.fl_c_operations.specs.declared.operation.Operation.{Operation}
use Rattle.fl_c_operations.specs.declared.operation.Operation.TheVariants.{Messages, Sizes, Call as ToCall, Next, Feed, Read}
use Rattle.fl_c_operations.specs.declared.answer.Outcome.{Outcome}
use Rattle.fl_c_operations.specs.declared.answer.Outcome.TheVariants.{Counted, Sized, Accepted, Fragment, Nothing, PartTaken, Handled, CallRead}
use Rattle.fl_c_operations.specs.declared.answer.UseFault.{UseFault}
use Rattle.fl_c_operations.specs.declared.answer.UseFault.TheVariants.{NoSuchOperation, WrongRoom, Unread, End}
use Rattle.fl_c_operations.specs.Calls.{IsNoMessage, AreCall, LacksCall, PutsCall}
use Rattle.fl_c_operations.specs.Sides.{numbers_of}

-- ---- a program

-- how many bytes a payload of the message has at most, and how many numbers a tape
abbrev pub SizesBy : TheProgram → List ℕ → Result Outcome UseFault → Type 0
SizesBy x (msg ∷ []) (Ok (Sized bytes numbers)) =
    IsGreatest (payload_length x.plan x.interface) x.interface msg bytes × IsGreatest (tape_length x.plan x.interface) x.interface msg numbers
SizesBy x (msg ∷ []) (Ok outcome) = ⊥
SizesBy x (msg ∷ []) (Err (End UnknownMessage)) = IsNoMessage x.interface msg
SizesBy x (msg ∷ []) (Err fault) = ⊥
SizesBy x numbers r = (length numbers ≢ 1) × (r ≡ Err WrongRoom)

-- an operation at a program, on these numbers
abbrev pub AsksProgram : TheProgram → Operation → List ℕ → Result Outcome UseFault → Type 0
AsksProgram x Messages numbers r = r ≡ Ok (Counted (length x.interface.messages))
AsksProgram x Sizes numbers r = SizesBy x numbers r
AsksProgram x operation numbers r = r ≡ Err NoSuchOperation

-- ---- a run of send code

-- the fragments that code has still to give; and that the run goes by that code
abbrev pub left_at : Option TheCode → TheSending → List Frag
left_at None run = []
left_at (Some code) run = frags_left code run

abbrev pub RunsAt : Option TheCode → TheSending → Type 0
RunsAt None run = ⊥
RunsAt (Some code) run = RunsOn code run

-- the same where there may be no run yet
abbrev pub left_in : Option TheCode → Option TheSending → List Frag
left_in code None = []
left_in code (Some run) = left_at code run

abbrev pub RunsIn : Option TheCode → Option TheSending → Type 0
RunsIn code None = Unit {0}
RunsIn code (Some run) = RunsAt code run

-- a program's send run: the fragments of its call that it has still to give
pub record TheSender : Type 0 where
  pub program : Program
  pub left : List Frag

-- a run of the call of these numbers; or why there is no call
abbrev pub StartsRun : TheProgram → List ℕ → Result (MsgNo × TheSending) UseFault → Type 0
StartsRun x numbers (Ok started) = ((c : TheCall) × AreCall x numbers c
    × (left_at (code_in Send x started.0.0) started.1 ≡ frags_of x.plan x.interface c)) × RunsAt (code_in Send x started.0.0) started.1
StartsRun x numbers (Err fault) = LacksCall x numbers fault

-- a call is begun where none is left; or why not
abbrev pub StartsBy : TheSender → List ℕ → Result Outcome UseFault → TheSender → Type 0
StartsBy h numbers (Ok Accepted) t = (h.left ≡ [])
    × ((c : TheCall) × AreCall (program_of h.program) numbers c × (t.left ≡ frags_of (program_of h.program).plan (program_of h.program).interface c))
    × (t.program ≡ h.program)
StartsBy h numbers (Ok outcome) t = ⊥
StartsBy h numbers (Err (End Busy)) t = (h.left ≢ []) × (t ≡ h)
StartsBy h numbers (Err fault) t = (h.left ≡ []) × LacksCall (program_of h.program) numbers fault × (t ≡ h)

-- the first of these fragments is written to a room, and the others are left; or there is none
abbrev pub Gives : List Frag → List ℕ → Result Outcome UseFault → List Frag → List ℕ → Type 0
Gives left room (Ok Fragment) then written = (frag : Frag) × (written ≡ numbers_of frag) × (left ≡ frag ∷ then)
Gives left room (Ok Nothing) then written = (left ≡ []) × (then ≡ []) × (written ≡ room)
Gives left room r then written = ⊥

-- the first fragment that is left is given
abbrev pub GivesBy : TheSender → List ℕ → Result Outcome UseFault → TheSender → List ℕ → Type 0
GivesBy h room (Ok Fragment) t written = (length room ≡ 8) × ((frag : Frag) × (written ≡ numbers_of frag) × (h.left ≡ frag ∷ t.left)) × (t.program ≡ h.program)
GivesBy h room (Ok Nothing) t written = (length room ≡ 8) × (written ≡ room) × (h.left ≡ []) × (t ≡ h)
GivesBy h room (Ok outcome) t written = ⊥
GivesBy h room (Err WrongRoom) t written = (length room ≢ 8) × (written ≡ room) × (t ≡ h)
GivesBy h room (Err fault) t written = ⊥

-- an operation at a send run, on these numbers
abbrev pub UsesSender : TheSender → Operation → List ℕ → Result Outcome UseFault → TheSender → List ℕ → Type 0
UsesSender h ToCall numbers r t written = StartsBy h numbers r t × (written ≡ numbers)
UsesSender h Next numbers r t written = GivesBy h numbers r t written
UsesSender h operation numbers r t written = (r ≡ Err NoSuchOperation) × (t ≡ h) × (written ≡ numbers)

-- ---- a run of receive code

-- what a receive run was fed, and whether a call that became whole is to be read
pub record TheReceiver : Type 0 where
  pub run : TheReceiving
  pub unread : Bool

abbrev pub program_fed : TheReceiver → TheProgram
program_fed h = program_of h.run.program

-- a fragment is fed, unless a call is to be read first; or why not
abbrev pub FeedsBy : TheReceiver → List ℕ → Result Outcome UseFault → TheReceiver → Type 0
FeedsBy h numbers (Ok PartTaken) t =
    (h.unread ≡ false) × ((frag : Frag) × (numbers ≡ numbers_of frag) × Feeds h.run frag (Ok Part) t.run) × (t.unread ≡ false)
FeedsBy h numbers (Ok Handled) t =
    (h.unread ≡ false) × ((frag : Frag) × (numbers ≡ numbers_of frag) × Feeds h.run frag (Ok Whole) t.run) × (t.unread ≡ true)
FeedsBy h numbers (Ok outcome) t = ⊥
FeedsBy h numbers (Err WrongRoom) t = (length numbers ≢ 8) × (t ≡ h)
FeedsBy h numbers (Err Unread) t = (h.unread ≡ true) × (t ≡ h)
FeedsBy h numbers (Err (End (Wire fault))) t =
    (h.unread ≡ false) × ((frag : Frag) × (numbers ≡ numbers_of frag) × Feeds h.run frag (Err fault) t.run) × (t ≡ h)
FeedsBy h numbers (Err fault) t = ⊥

-- the one fitting call that became whole stands first in a room, or there is no room for it; or memory ran out
abbrev pub PutsWhole : TheReceiving → List ℕ → Result ℕ UseFault → List ℕ → Type 0
PutsWhole run room r written = ((r ≡ Err (End Memory)) × (written ≡ room))
    ⊎ ((call : Call) × Means (plan_in run) (interface_in run) run.whole (call_of call) 0 × (fits_of (interface_in run) (call_of call) ≡ true)
    × PutsCall (program_of run.program) call room r written)

-- the call that became whole is read, and may be read once
abbrev pub ReadsFed : TheReceiver → List ℕ → Result Outcome UseFault → TheReceiver → List ℕ → Type 0
ReadsFed h room (Ok (CallRead count)) t written = (h.unread ≡ true) × PutsWhole h.run room (Ok count) written × (t ≡ record { run = h.run; unread = false })
ReadsFed h room (Ok Nothing) t written = (h.unread ≡ false) × (t ≡ h) × (written ≡ room)
ReadsFed h room (Ok outcome) t written = ⊥
ReadsFed h room (Err fault) t written = (h.unread ≡ true) × PutsWhole h.run room (Err fault) written × (t ≡ h)

-- an operation at a receive run, on these numbers
abbrev pub UsesReceiver : TheReceiver → Operation → List ℕ → Result Outcome UseFault → TheReceiver → List ℕ → Type 0
UsesReceiver h Feed numbers r t written = FeedsBy h numbers r t × (written ≡ numbers)
UsesReceiver h Read numbers r t written = ReadsFed h numbers r t written
UsesReceiver h operation numbers r t written = (r ≡ Err NoSuchOperation) × (t ≡ h) × (written ≡ numbers)

-- ---- new runs

abbrev pub IsNewSender : TheProgram → TheSender → Type 0
IsNewSender x h = (program_of h.program ≡ x) × (h.left ≡ [])

abbrev pub IsNewReceiver : TheProgram → TheReceiver → Type 0
IsNewReceiver x h = (program_fed h ≡ x) × (h.run.parts ≡ []) × (h.run.whole ≡ []) × (h.unread ≡ false)
