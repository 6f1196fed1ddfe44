-- What a run of receive code was fed: fragments, each list a function of what the run stores.
use Rattle.std.specs.Prelude.{◌≡◌, ◌⊎◌, Bool, ℕ, ◌+◌, ◌*◌, ◌<◌, ◌≤◌, true, false, if◌then◌else◌, List, [], ◌∷◌, ◌++◌, map, take, length}
use Rattle.std.specs.Prelude.{slice_get, slice_index, Option, Some, None, Result, Ok, Err}
use Rattle.std.specs.Option.{option_map}
use Rattle.std.specs.List.{range_with_len}
use Rattle.fl_base.specs.declared.fragment.Frag.{Frag}
use Rattle.fl_base.specs.Control.{bare}
use Rattle.fl_interface.specs.Interface.{TheMessage, TheInterface}
use Rattle.fl_value_data.specs.declared.value.PlanNo.{PlanNo}
use Rattle.fl_value_data.specs.Value.{TheCall}
use Rattle.fl_value_data.specs.Fits.{fits_of}
use Rattle.fl_value_data.specs.Tape.{tape_of}
use Rattle.fl_layout.specs.Layouts.{tape_length}
use Rattle.fl_layout.specs.Places.{count}
use Rattle.fl_wire.specs.Reading.{Means, IsPart, IsWrong}
use Rattle.fl_wire.specs.Wrong.{HasFault}
use Rattle.fl_wire.specs.declared.fault.WireFault.{WireFault}
use Rattle.fl_stub.specs.declared.op.Column.TheVariants.{Receive}
use Rattle.fl_stub.specs.declared.op.Op.{Op}
use Rattle.fl_stub.specs.Structure.{Block, IsCode, finished}
use Rattle.fl_stub.specs.Frames.{block_of}
use Rattle.fl_stub.specs.Given.{bytes_given}
use Rattle.fl_stub.specs.Streams.{BeginsPayload}
use Rattle.fl_compile.specs.Compiled.{message_block, message_code}
use Rattle.fl_compile.specs.declared.program.Program.{Program}
use Rattle.fl_compile.specs.Programs.{TheProgram, program_of}
use Rattle.fl_machine.specs.Sending.{frag_of, frags_holding}
use Rattle.fl_machine.specs.Taking.{Stands, so_far}
use Rattle.fl_machine.specs.declared.recv.PartialCall.{PartialCall}
use Rattle.fl_machine.specs.declared.recv.TapedCall.{TapedCall}
use Rattle.fl_machine.specs.declared.recv.Phase.{Phase}
use Rattle.fl_machine.specs.declared.recv.Phase.TheVariants.{Idle, Busy, Done}
use Rattle.fl_machine.specs.declared.recv.BeforeFeed.{BeforeFeed}
use Rattle.fl_machine.specs.declared.recv.RecvState.{RecvState}
use Rattle.fl_machine.specs.declared.intake.Fed.{Fed}
use Rattle.fl_machine.specs.declared.intake.Fed.TheVariants.{Part, Whole}

-- ---- the view

-- the fragments fed since the last whole call, and those of the call that the last one fed made whole (none if it
-- didn't); without their epochs and what they told
pub record TheHeld : Type 0 where
  pub parts : List Frag
  pub whole : List Frag

-- what contracts see of a receive run; `before` is what was fed before the last accepted feed, where that isn't undone
pub record TheReceiving : Type 0 where
  pub program : Program
  pub parts : List Frag
  pub whole : List Frag
  pub before : Option TheHeld

abbrev pub interface_in : TheReceiving → TheInterface
interface_in r = (program_of r.program).interface

abbrev pub plan_in : TheReceiving → PlanNo
plan_in r = (program_of r.program).plan

-- what an undo of the next accepted feed goes back to
abbrev pub fed_by : TheReceiving → TheHeld
fed_by r = record { parts = r.parts; whole = r.whole }

-- the structure of a message's receive code; of none where there is no such message
abbrev pub block_for : PlanNo → Option TheMessage → Block
block_for plan None = finished
block_for plan (Some m) = message_block Receive plan m

-- that of the message of this number
abbrev pub block_at : PlanNo → TheInterface → ℕ → Block
block_at plan i msg = block_for plan (slice_get i.messages msg)

-- the first so many fragments of a call whose payload begins with these bytes
abbrev pub frags_begun : ℕ → List ℕ → ℕ → List Frag
frags_begun msg bytes count = map (frag_of true msg 0 bytes) (range_with_len 0 count)

-- what the code gives back for the numbers taken so far begins with the bytes fed
abbrev pub parts_of : PlanNo → TheInterface → List ℕ → PartialCall → List Frag
parts_of plan i tape b = frags_begun b.msg.0 (bytes_given (block_at plan i b.msg.0) (so_far (take b.intake.count tape) b.intake)) b.fed

-- the fragments of a call that is whole: they hold the bytes that the code gives for its numbers
abbrev pub whole_of : PlanNo → TheInterface → List ℕ → TapedCall → List Frag
whole_of plan i tape e = frags_holding true e.msg.0 0 (bytes_given (block_at plan i e.msg.0) (take e.count tape))

-- where a run stands: outside of a call that was fed, inside one, or behind one
pub data Stand : Type 0 where
  Between : Stand
  Inside : PartialCall → Stand
  After : TapedCall → Stand

-- where it stood before the last accepted feed, and whether that feed began a call
pub record Before : Type 0 where
  pub stand : Stand
  pub began : Bool

-- what was fed, by where the run stands and its tape
abbrev pub fed_of : PlanNo → TheInterface → List ℕ → Stand → TheHeld
fed_of plan i tape Between = record { parts = []; whole = [] }
fed_of plan i tape (Inside b) = record { parts = parts_of plan i tape b; whole = [] }
fed_of plan i tape (After e) = record { parts = []; whole = whole_of plan i tape e }

-- the tape of what was before: another where the last accepted feed began a call
abbrev pub tape_before : List ℕ → List ℕ → Before → List ℕ
tape_before tape spare b = if b.began then spare else tape

-- what was fed before the last accepted feed, where that isn't undone
abbrev pub fed_before : PlanNo → TheInterface → List ℕ → List ℕ → Option Before → Option TheHeld
fed_before plan i tape spare o = option_map (λ (b : Before). fed_of plan i (tape_before tape spare b) b.stand) o

-- what a run stores beside its program: three tapes, of which one has room for each call's, where it stands and what
-- stood before
pub record TheStored : Type 0 where
  pub tape : List ℕ
  pub spare : List ℕ
  pub fresh : List ℕ
  pub stand : Stand
  pub before : Option Before

-- the phase, with the call that is under way in it
abbrev pub stand_of : Phase → PartialCall → Stand
stand_of Idle b = Between
stand_of Busy b = Inside b
stand_of (Done e) b = After e

-- what stood before, by the phase then and the call that was under way in it
abbrev pub before_of : PartialCall → BeforeFeed → Before
before_of b x = record { stand = stand_of x.phase b; began = x.began }

abbrev pub stored_of : RecvState → TheStored
stored_of s = record {
  tape = s.tape.items;
  spare = s.spare.items;
  fresh = s.fresh.items;
  stand = stand_of s.phase s.now.value;
  before = option_map (before_of s.last.value) s.before;
}

-- what contracts see of a run of this program that stores this
abbrev pub receiving : Program → TheStored → TheReceiving
receiving program s = record {
  program = program;
  parts = (fed_of (program_of program).plan (program_of program).interface s.tape s.stand).parts;
  whole = (fed_of (program_of program).plan (program_of program).interface s.tape s.stand).whole;
  before = fed_before (program_of program).plan (program_of program).interface s.tape s.spare s.before;
}

-- ---- what feeding comes to

-- the fragment goes on with a call, and doesn't end it
pub record AddsPart (plan : PlanNo) (i : TheInterface) (parts : List Frag) (f : Frag) (t : TheHeld) : Type 0 where
  pub part : IsPart plan i (parts ++ f ∷ [])
  pub parts_are : t.parts ≡ parts ++ bare f ∷ []
  pub whole_is : t.whole ≡ []

-- the fragment makes a fitting call whole
pub record AddsLast (plan : PlanNo) (i : TheInterface) (parts : List Frag) (f : Frag) (t : TheHeld) : Type 0 where
  pub call : TheCall
  pub fits : fits_of i call ≡ true
  pub means : Means plan i (parts ++ f ∷ []) call 0
  pub parts_are : t.parts ≡ []
  pub whole_is : t.whole ≡ parts ++ bare f ∷ []

-- the fragment can't follow, and why
pub record IsRefused (plan : PlanNo) (i : TheInterface) (parts : List Frag) (f : Frag) (fault : WireFault) : Type 0 where
  pub first : HasFault plan i parts f fault
  pub wrong : IsWrong plan i (parts ++ f ∷ [])

-- the tape of the fitting call that these fragments mean
pub record IsTapeOf (plan : PlanNo) (i : TheInterface) (frags : List Frag) (tape : List ℕ) : Type 0 where
  pub call : TheCall
  pub fits : fits_of i call ≡ true
  pub means : Means plan i frags call 0
  pub tape_is : tape ≡ tape_of plan i call

-- the run afterwards: of the same program, and the former state can be had back
pub record Remembers (s t : TheReceiving) : Type 0 where
  pub program : t.program ≡ s.program
  pub before : t.before ≡ Some (fed_by s)

-- what a run answers to a fragment, and what it is then
abbrev pub Feeds : TheReceiving → Frag → Result Fed WireFault → TheReceiving → Type 0
Feeds s f (Ok Part) t = AddsPart (plan_in s) (interface_in s) s.parts f (fed_by t) × Remembers s t
Feeds s f (Ok Whole) t = AddsLast (plan_in s) (interface_in s) s.parts f (fed_by t) × Remembers s t
Feeds s f (Err fault) t = IsRefused (plan_in s) (interface_in s) s.parts f fault × (t ≡ s)

-- the run back before its last accepted feed; itself where there is none to go back to
abbrev pub undone : TheReceiving → Option TheHeld → TheReceiving
undone r None = r
undone r (Some b) = record { program = r.program; parts = b.parts; whole = b.whole; before = None }

abbrev pub Undoes : TheReceiving → TheReceiving → Type 0
Undoes r s = s ≡ undone r r.before

-- ---- what a run knows

-- so many numbers are enough for each call's tape
abbrev pub HoldsTapes : PlanNo → TheInterface → ℕ → Type 0
HoldsTapes plan i capacity = (c : TheCall) → fits_of i c ≡ true → tape_length plan i c ≤ capacity

-- a call has no more fragments than so many
abbrev pub HoldsParts : PlanNo → TheInterface → ℕ → Type 0
HoldsParts plan i capacity = (c : TheCall) → fits_of i c ≡ true → count plan i c ≤ capacity

-- a tape of so many places has room for a fragment's numbers behind so many: for each call's, or for one a byte
abbrev pub HasPlaces : TheProgram → ℕ → ℕ → Type 0
HasPlaces p count places = HoldsTapes p.plan p.interface places ⊎ (count + 56 ≤ places)

-- so many places have room for each call's tape, or for the numbers of any two fragments
abbrev pub HoldsTwo : PlanNo → TheInterface → ℕ → Type 0
HoldsTwo plan i places = HoldsTapes plan i places ⊎ (112 ≤ places)

-- the longest of three tapes of so many places has room for each call's
abbrev pub LongestHolds : PlanNo → TheInterface → ℕ → ℕ → ℕ → Type 0
LongestHolds plan i a b c = (n : ℕ) → a ≤ n → b ≤ n → c ≤ n → HoldsTapes plan i n

-- a call of which so many fragments were fed, or which is to begin
pub record IsBegun (plan : PlanNo) (i : TheInterface) (tape : List ℕ) (b : PartialCall) : Type 0 where
  pub message : TheMessage
  pub known : slice_get i.messages b.msg.0 ≡ Some message
  pub bytes : List ℕ
  pub long : length bytes ≡ 56 * b.fed
  pub small : (p : ℕ) → slice_index bytes p < 256
  pub within : b.intake.count ≤ length tape
  pub stands : Stands (message_code Receive plan message) (take b.intake.count tape) b.intake bytes
  pub begins : 0 < b.fed → BeginsPayload (message_block Receive plan message) bytes

-- a call whose tape this is
pub record IsEnded (plan : PlanNo) (i : TheInterface) (tape : List ℕ) (e : TapedCall) : Type 0 where
  pub call : TheCall
  pub message : call.msg ≡ e.msg.0
  pub fits : fits_of i call ≡ true
  pub within : e.count ≤ length tape
  pub tape_is : take e.count tape ≡ tape_of plan i call

-- a run may stand so over this tape: outside of calls, inside one of which a fragment was fed, or behind one with this tape
abbrev pub IsStand : PlanNo → TheInterface → List ℕ → Stand → Type 0
IsStand plan i tape Between = Unit {0}
IsStand plan i tape (Inside b) = (0 < b.fed) × IsBegun plan i tape b
IsStand plan i tape (After e) = IsEnded plan i tape e

-- what feeding a fragment comes to, by where the run stands then
abbrev pub Adds : PlanNo → TheInterface → List Frag → Frag → TheHeld → Stand → Type 0
Adds plan i parts f t Between = ⊥
Adds plan i parts f t (Inside b) = AddsPart plan i parts f t
Adds plan i parts f t (After e) = AddsLast plan i parts f t

-- a call of which nothing was taken, under each code
pub record IsNew (b : PartialCall) : Type 0 where
  pub none : b.intake.count ≡ 0
  pub stands : (ops : List Op) → IsCode Receive ops (block_of ops) → Stands ops [] b.intake []

-- the call under way, as one that is whole: its message, and how many numbers were taken
abbrev pub ended_as : PartialCall → TapedCall
ended_as b = record { msg = b.msg; count = b.intake.count }

-- where a run stands behind the last fragment of a call, by what that came to
abbrev pub stand_after : PartialCall → Fed → Stand
stand_after b Part = Inside b
stand_after b Whole = After (ended_as b)

-- the numbers of a stand are the first so many of its tape
abbrev pub numbers_in : Stand → ℕ
numbers_in Between = 0
numbers_in (Inside b) = b.intake.count
numbers_in (After e) = e.count

-- how many numbers there are now: no more than one fragment's, 56, where the last accepted feed began a call; else no fewer
-- than before
abbrev pub CountsNow : Bool → ℕ → ℕ → Type 0
CountsNow true before count = count ≤ 56
CountsNow false before count = before ≤ count

-- what was before stands on its tape, and the numbers now are so many
abbrev pub IsBefore : PlanNo → TheInterface → List ℕ → List ℕ → ℕ → Option Before → Type 0
IsBefore plan i tape spare count None = Unit {0}
IsBefore plan i tape spare count (Some b) = IsStand plan i (tape_before tape spare b) b.stand × CountsNow b.began (numbers_in b.stand) count

-- each tape has room for the numbers of two fragments, and the longest for each call's
pub record IsStored (plan : PlanNo) (i : TheInterface) (s : TheStored) : Type 0 where
  pub tape : HoldsTwo plan i (length s.tape)
  pub spare : HoldsTwo plan i (length s.spare)
  pub fresh : HoldsTwo plan i (length s.fresh)
  pub longest : LongestHolds plan i (length s.tape) (length s.spare) (length s.fresh)
  pub stand : IsStand plan i s.tape s.stand
  pub before : IsBefore plan i s.tape s.spare (numbers_in s.stand) s.before

-- ---- the same, of a program

abbrev pub parts_in : TheProgram → List ℕ → PartialCall → List Frag
parts_in p tape b = parts_of p.plan p.interface tape b

abbrev pub StandsIn : TheProgram → List ℕ → Stand → Type 0
StandsIn p tape stand = IsStand p.plan p.interface tape stand

-- what feeding a fragment comes to, where the run then stands so on a tape
abbrev pub AddsUpTo : TheProgram → List Frag → Frag → List ℕ → Stand → Type 0
AddsUpTo p parts f tape stand = Adds p.plan p.interface parts f (fed_of p.plan p.interface tape stand) stand

-- the fragments of a whole tape mean the call
abbrev pub MeansWhole : TheProgram → List ℕ → TapedCall → TheCall → Type 0
MeansWhole p tape e c = Means p.plan p.interface (whole_of p.plan p.interface tape e) c 0

abbrev pub HasFaultIn : TheProgram → List Frag → Frag → WireFault → Type 0
HasFaultIn p parts f fault = HasFault p.plan p.interface parts f fault

abbrev pub IsRefusedIn : TheProgram → List Frag → Frag → WireFault → Type 0
IsRefusedIn p parts f fault = IsRefused p.plan p.interface parts f fault
