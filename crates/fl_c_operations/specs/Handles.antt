-- What each operation does at a handle, exactly, and what C is answered.
use Rattle.std.specs.Prelude.{◌≡◌, ◌≢◌, ◌⊎◌, ℕ, List, Option, Some, None, Result, Ok, Err}
use prog.Memory.{size as size_in, align as align_in, capped}
use denote.Param.{layout}
use denote.RawPtr.{Ptr}
use Rattle.fl_ring.specs.SharedSides.{TheSide}
use Rattle.fl_c_operations.specs.declared.operation.Operation.{Operation}
use Rattle.fl_c_operations.specs.declared.answer.Outcome.{Outcome}
use Rattle.fl_c_operations.specs.declared.answer.Outcome.TheVariants.{Made, Freed}
use Rattle.fl_c_operations.specs.declared.answer.UseFault.{UseFault}
use Rattle.fl_c_operations.specs.declared.answer.UseFault.TheVariants.{NoSuchOperation, End as FromEnd}
use Rattle.fl_endpoint.specs.declared.fault.EndFault.TheVariants.{Memory}
use Rattle.fl_compile.specs.Programs.{TheProgram, program_of}
use Rattle.fl_c_operations.specs.declared.answer.Answered.{Answered}
use Rattle.fl_c_operations.specs.declared.handle.Handle.{Handle}
use Rattle.fl_c_operations.specs.contracts.handle.Handle.{the_row}
use Rattle.fl_c_operations.specs.declared.handle.Handle.TheVariants.{Side, End, Program, Sender, Receiver, Ended}
use Rattle.fl_c_operations.specs.Numbers.{operation_at, answer_of}
use Rattle.fl_c_operations.specs.View.{TheHeld}
use Rattle.fl_c_operations.specs.Sides.{UsesSide}
use Rattle.fl_c_operations.specs.Ends.{SendsBy, TakesCallBy, UsesEnd}
use Rattle.fl_c_operations.specs.Runs.{AsksProgram, TheSender, UsesSender, IsNewSender, TheReceiver, UsesReceiver, IsNewReceiver}

-- what the handle led to is freed, and its own block is left, of a handle's size and alignment
abbrev pub Frees : List ℕ → Result Outcome UseFault → Handle → List ℕ → Type 0
Frees numbers r t written =
    (r ≡ Ok (Freed (capped (align_in (layout the_row))) (capped (size_in (layout the_row))))) × (t ≡ Ended) × (written ≡ numbers)

-- there is no such operation at a handle of this kind, and nothing is done
abbrev pub Refuses : Handle → List ℕ → Result Outcome UseFault → Handle → List ℕ → Type 0
Refuses s numbers r t written = (r ≡ Err NoSuchOperation) × (t ≡ s) × (written ≡ numbers)

-- an operation, by the kind of the handle; none has no number
abbrev pub UsesKind : Option Operation → Handle → List ℕ → Result Outcome UseFault → Handle → List ℕ → Type 0
UsesKind None s numbers r t written = Refuses s numbers r t written
UsesKind (Some operation) (Side side) numbers r t written = (after : TheSide) × (t ≡ Side after) × UsesSide side operation numbers r after written
UsesKind (Some operation) (End end) numbers r t written = (after : TheHeld) × (t ≡ End after) × UsesEnd end operation numbers r after written
UsesKind (Some operation) (Program held) numbers r t written =
    AsksProgram (program_of held.program) operation numbers r × (t ≡ Program held) × (written ≡ numbers)
UsesKind (Some operation) (Sender run) numbers r t written = (after : TheSender) × (t ≡ Sender after) × UsesSender run operation numbers r after written
UsesKind (Some operation) (Receiver run) numbers r t written = (after : TheReceiver) × (t ≡ Receiver after) × UsesReceiver run operation numbers r after written
UsesKind (Some operation) Ended numbers r t written = Refuses Ended numbers r t written

-- a new run of a program: its send run is 1, its receive run 2
abbrev pub MakesRun : TheProgram → ℕ → Result Handle UseFault → Type 0
MakesRun x kind (Ok (Sender run)) = (kind ≡ 1) × IsNewSender x run
MakesRun x kind (Ok (Receiver run)) = (kind ≡ 2) × IsNewReceiver x run
MakesRun x kind (Ok handle) = ⊥
MakesRun x kind (Err NoSuchOperation) = (kind ≢ 1) × (kind ≢ 2)
MakesRun x kind (Err (FromEnd Memory)) = (kind ≡ 1) ⊎ (kind ≡ 2)
MakesRun x kind (Err fault) = ⊥

-- what C is answered of a new run: its handle is made, or there is no memory for that; or why there is no run
abbrev pub AnswersNew : Result Handle UseFault → Answered → Type 0
AnswersNew (Ok run) answer = (answer ≡ answer_of (Ok Made)) ⊎ (answer ≡ answer_of (Err (FromEnd Memory)))
AnswersNew (Err fault) answer = answer ≡ answer_of (Err fault)

-- the same of what a handle leads to: nothing but a program makes runs
abbrev pub AnswersRun : Handle → ℕ → Answered → Type 0
AnswersRun (Program held) kind answer = (r : Result Handle UseFault) × MakesRun (program_of held.program) kind r × AnswersNew r answer
AnswersRun s kind answer = answer ≡ answer_of (Err NoSuchOperation)

-- a run is made of what a handle leads to, which stays as it is; a fault leaves the pointer as it was
abbrev pub HandsRun : Handle → ℕ → Ptr → Answered → Handle → Ptr → Type 0
HandsRun s kind at answer t after = (t ≡ s) × AnswersRun s kind answer × (answer.fault ≢ 0 → after ≡ at)

-- a call is made at an end, and its first fragment written; nothing else sends calls
abbrev pub SendsAt : Handle → List ℕ → Result Outcome UseFault → Handle → Type 0
SendsAt (End end) numbers r t = (after : TheHeld) × (t ≡ End after) × SendsBy end numbers r after
SendsAt s numbers r t = (r ≡ Err NoSuchOperation) × (t ≡ s)

-- a fragment is taken at an end, and the call that it makes whole read; nothing else takes calls
abbrev pub TakesCallAt : Handle → List ℕ → Result Outcome UseFault → Handle → List ℕ → Type 0
TakesCallAt (End end) room r t written = (after : TheHeld) × (t ≡ End after) × TakesCallBy end room r after written
TakesCallAt s room r t written = Refuses s room r t written

-- a use of a handle: what this number asks for is done on these numbers
pub record UsesAt (s : Handle) (what : ℕ) (numbers : List ℕ) (r : Result Outcome UseFault) (t : Handle) (written : List ℕ) : Type 0 where
  pub frees : what ≡ 5 → Frees numbers r t written
  pub sends : what ≡ 16 → SendsAt s numbers r t × (written ≡ numbers)
  pub takes_call : what ≡ 17 → TakesCallAt s numbers r t written
  pub uses : what ≢ 5 → what ≢ 16 → what ≢ 17 → UsesKind (operation_at what) s numbers r t written

-- the same, and what C is answered
abbrev pub Uses : Handle → ℕ → List ℕ → Answered → Handle → List ℕ → Type 0
Uses s what numbers answer t written = (r : Result Outcome UseFault) × (answer ≡ answer_of r) × UsesAt s what numbers r t written
