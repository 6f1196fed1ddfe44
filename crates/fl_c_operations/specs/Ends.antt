-- What each operation does at an end, exactly: by cases on what it came to. The end goes from h to t.
use Rattle.std.specs.Prelude.{◌≡◌, ◌≢◌, ℕ, ◌-◌, ◌≤◌, ◌⊎◌, true, false, List, [], ◌∷◌, ◌++◌, length}
use Rattle.std.specs.Prelude.{Option, Some, None, IsSome, Result, Ok, Err}
use Rattle.fl_base.specs.declared.fragment.Frag.{Frag}
use Rattle.fl_base.specs.Control.{bare}
use Rattle.fl_link.specs.Looks.{saw, found}
use Rattle.fl_ring.specs.SharedSides.{TheSide, SharedPuts, SharedTakes}
use Rattle.fl_machine.specs.Reassembling.{TheReassembly, ChangesPlace}
use Rattle.fl_value_data.specs.Value.{TheCall}
use Rattle.fl_endpoint.specs.declared.fault.EndFault.{EndFault}
use Rattle.fl_endpoint.specs.declared.fault.EndFault.TheVariants.{UnknownMessage, Misfit, Memory}
use Rattle.fl_endpoint.specs.declared.answer.WriteAnswer.{WriteAnswer}
use Rattle.fl_endpoint.specs.declared.answer.WriteAnswer.TheVariants.{Written, Full, Nothing}
use Rattle.fl_endpoint.specs.declared.answer.ReceiveAnswer.{ReceiveAnswer}
use Rattle.fl_endpoint.specs.declared.answer.ReceiveAnswer.TheVariants.{Handle, Part, Quiet, Empty, HeldBack}
use Rattle.fl_endpoint.specs.View.{TheEnd, is_busy, with_parts, with_handled}
use Rattle.fl_endpoint.specs.Events.{IsOpen, AreCall as AreCallsFrags, Calls, Writes, SetsRule}
use Rattle.fl_endpoint.specs.Lent.{IsOf, receipt, ReceivesAt}
use Rattle.fl_c_operations.specs.declared.operation.Operation.{Operation}
use Rattle.fl_c_operations.specs.declared.operation.Operation.TheVariants.{Tell, Call as ToCall, Write, Receive, Read, Rule, Busy as AskBusy}
use Rattle.fl_c_operations.specs.declared.answer.Outcome.{Outcome}
use Rattle.fl_c_operations.specs.declared.answer.Outcome.TheVariants.{Accepted, Wrote, NoRoom, Idle, Handled, PartTaken}
use Rattle.fl_c_operations.specs.declared.answer.Outcome.TheVariants.{Acknowledgement, Nothing as NothingThere, Held, CallRead, CallTaken, RuleSet, Sending}
use Rattle.fl_c_operations.specs.declared.answer.UseFault.{UseFault}
use Rattle.fl_c_operations.specs.declared.answer.UseFault.TheVariants.{NoSuchOperation, WrongRoom, ShortRoom, Unread, End, Unwritten}
use Rattle.fl_c_operations.specs.declared.answer.UseFault.TheVariants.{HandledShort, HandledMemory}
use Rattle.fl_c_operations.specs.declared.answer.Answered.{Answered}
use Rattle.fl_c_operations.specs.Numbers.{answer_of}
use Rattle.fl_c_operations.specs.Sides.{Tells}
use Rattle.fl_c_operations.specs.declared.unread.UnreadCall.{UnreadCall}
use Rattle.fl_c_operations.specs.declared.unread.UnreadCall.TheVariants.{Whole}
use Rattle.fl_c_operations.specs.declared.transmitting.Sent.{Sent}
use Rattle.fl_c_operations.specs.Transmissions.{first_written}
use Rattle.fl_c_operations.specs.Calls.{AreCall, RefusesNumbers, numbers_of_call, PutsNumbers}
use Rattle.fl_c_operations.specs.View.{TheHeld, program_of_held, ChangesEnd}

-- ---- a call is made

-- what a call comes to, as it is told
abbrev pub called_as : Result (Unit {0}) EndFault → Result Outcome UseFault
called_as (Ok done) = Ok Accepted
called_as (Err fault) = Err (End fault)

-- numbers that are no call's are refused, and nothing is done; else their call is made, or refused, and memory runs out only where
-- the end refuses it for nothing else
abbrev pub CallsBy : TheHeld → List ℕ → Result Outcome UseFault → TheHeld → Type 0
CallsBy h numbers r t =
    ((fault : UseFault) × (r ≡ Err fault) × RefusesNumbers (program_of_held h) numbers fault × (t ≡ h))
    ⊎ ((c : TheCall) × (answer : Result (Unit {0}) EndFault) × AreCall (program_of_held h) numbers c
    × Calls h.end c answer t.end × (r ≡ called_as answer) × ChangesEnd h t)

-- ---- a fragment is written

-- so many fragments of the call are left to be written
abbrev pub WritesBy : TheHeld → Result Outcome UseFault → TheHeld → Type 0
WritesBy h (Ok (Wrote left)) t =
    ((number : ℕ) × (count : ℕ) × (left ≡ count - number) × Writes SharedPuts h.end h.side (Ok (Written number count)) t.end t.side)
    × (t.calls ≡ h.calls) × (t.handled ≡ h.handled)
WritesBy h (Ok NoRoom) t = Writes SharedPuts h.end h.side (Ok Full) t.end t.side × (t.calls ≡ h.calls) × (t.handled ≡ h.handled)
WritesBy h (Ok Idle) t = Writes SharedPuts h.end h.side (Ok Nothing) t.end t.side × (t.calls ≡ h.calls) × (t.handled ≡ h.handled)
WritesBy h (Ok outcome) t = ⊥
WritesBy h (Err (End fault)) t = Writes SharedPuts h.end h.side (Err fault) t.end t.side × (t.calls ≡ h.calls) × (t.handled ≡ h.handled)
WritesBy h (Err fault) t = ⊥

-- what a write comes to, as it is told
abbrev pub written_as : Result WriteAnswer EndFault → Result Outcome UseFault
written_as (Ok (Written number count)) = Ok (Wrote (count - number))
written_as (Ok Full) = Ok NoRoom
written_as (Ok Nothing) = Ok Idle
written_as (Err fault) = Err (End fault)

-- ---- a call is made, and its first fragment written

-- what a write comes to behind a call that was accepted, as it is told
abbrev pub unwritten_as : UseFault → UseFault
unwritten_as (End fault) = Unwritten fault
unwritten_as fault = fault

abbrev pub sent_as : Result Outcome UseFault → Result Outcome UseFault
sent_as (Ok outcome) = Ok outcome
sent_as (Err fault) = Err (unwritten_as fault)

-- what a call of one fragment that is made and put comes to, as it is told
abbrev pub sent_one : Result Sent EndFault → Result Outcome UseFault
sent_one (Err fault) = Err (End fault)
sent_one (Ok sent) = sent_as (written_as (first_written sent))

-- the call is refused; or it is accepted, and a write comes to what is told
abbrev pub SendsBy : TheHeld → List ℕ → Result Outcome UseFault → TheHeld → Type 0
SendsBy h numbers r t =
    ((fault : UseFault) × (r ≡ Err fault) × CallsBy h numbers (Err fault) t)
    ⊎ ((m : TheHeld) × (written : Result Outcome UseFault) × CallsBy h numbers (Ok Accepted) m × WritesBy m written t × (r ≡ sent_as written))

-- the same, and what C is answered
abbrev pub AnswersSend : TheHeld → List ℕ → Answered → TheHeld → Type 0
AnswersSend h numbers answer t = (r : Result Outcome UseFault) × (answer ≡ answer_of r) × SendsBy h numbers r t

-- ---- a fragment is taken

-- what a receive comes to, as it is told, and the call that the code keeps then
abbrev pub received_as : Result ReceiveAnswer EndFault → Result Outcome UseFault
received_as (Ok (Handle call)) = Ok Handled
received_as (Ok Part) = Ok PartTaken
received_as (Ok Quiet) = Ok Acknowledgement
received_as (Ok Empty) = Ok NothingThere
received_as (Ok HeldBack) = Ok Held
received_as (Err fault) = Err (End fault)

abbrev pub unread_in : Result ReceiveAnswer EndFault → Option UnreadCall
unread_in (Ok (Handle call)) = Some (Whole call)
unread_in answer = None

-- an end's receive that answers `Handle`, by the call alone, since no value need be made of a short one: the fragment that stands first
-- is seen and taken, with those before it it is the call, and the end handles that
abbrev pub TakesCall : TheEnd → TheSide → TheCall → TheEnd → TheSide → Type 0
TakesCall s p c t q =
    IsOpen s × ((f : Frag) × (m : TheSide) × (bare f ≡ f) × SharedTakes p (saw f) m × SharedTakes m (found f) q
    × (AreCallsFrags s (s.parts ++ f ∷ []) c × (t ≡ with_handled s c)))

-- the place stays the end's, with its program, and the end handles the call
pub record HandlesWith (h : TheHeld) (c : TheCall) (t : TheHeld) (was is : TheReassembly) : Type 0 where
  pub of : IsOf t.end is
  pub program : is.program ≡ was.program
  pub takes : TakesCall (with_parts h.end was.parts) h.side c (with_parts t.end is.parts) t.side

-- the end receives by its side, at its place: the numbers of a call that it handles stay to be read
abbrev pub ReceivesNext : TheHeld → Result Outcome UseFault → TheHeld → Type 0
ReceivesNext h (Ok Handled) t =
    (c : TheCall) × ChangesPlace h.calls 0 (HandlesWith h c t) t.calls × (t.handled ≡ Some (numbers_of_call (program_of_held h) c))
ReceivesNext h r t = (answer : Result ReceiveAnswer EndFault)
    × ReceivesAt SharedTakes (receipt h.end h.side answer t.end t.side) h.calls 0 t.calls × (r ≡ received_as answer) × (t.handled ≡ None)

-- nothing is taken while a call that was handled is unread
abbrev pub ReceivesBy : TheHeld → Result Outcome UseFault → TheHeld → Type 0
ReceivesBy h r t = (IsSome h.handled × (r ≡ Err Unread) × (t ≡ h)) ⊎ ((h.handled ≡ None) × ReceivesNext h r t)

-- ---- the call that was handled is read

-- a call that is read is let go
abbrev pub without_handled : TheHeld → TheHeld
without_handled h = record { end = h.end; side = h.side; calls = h.calls; handled = None }

abbrev pub ReadsBy : TheHeld → List ℕ → Result Outcome UseFault → TheHeld → List ℕ → Type 0
ReadsBy h room (Ok (CallRead count)) t written =
    ((numbers : List ℕ) × (h.handled ≡ Some numbers) × PutsNumbers numbers room (Ok count) written) × (t ≡ without_handled h)
ReadsBy h room (Ok NothingThere) t written = (h.handled ≡ None) × (t ≡ h) × (written ≡ room)
ReadsBy h room (Ok outcome) t written = ⊥
ReadsBy h room (Err fault) t written =
    ((numbers : List ℕ) × (h.handled ≡ Some numbers) × PutsNumbers numbers room (Err fault) written) × (t ≡ h)

-- ---- a fragment is taken, and the call that it makes whole read

-- what a read is refused for behind a call that was handled, as it is told: too little room, or want of memory
abbrev pub stays_as : UseFault → UseFault
stays_as (ShortRoom wanted) = HandledShort wanted
stays_as fault = HandledMemory

-- what a read comes to behind a call that was handled, as it is told
abbrev pub read_as : Outcome → Outcome
read_as (CallRead count) = CallTaken count
read_as outcome = outcome

abbrev pub taken_as : Result Outcome UseFault → Result Outcome UseFault
taken_as (Ok outcome) = Ok (read_as outcome)
taken_as (Err fault) = Err (stays_as fault)

-- a receive handles no call, and comes to what is told; or it handles one, and a read comes to that
abbrev pub TakesCallBy : TheHeld → List ℕ → Result Outcome UseFault → TheHeld → List ℕ → Type 0
TakesCallBy h room r t written =
    (ReceivesBy h r t × (r ≢ Ok Handled) × (written ≡ room))
    ⊎ ((m : TheHeld) × (read : Result Outcome UseFault) × ReceivesBy h (Ok Handled) m × ReadsBy m room read t written × (r ≡ taken_as read))

-- the same, and what C is answered
abbrev pub AnswersTakeCall : TheHeld → List ℕ → Answered → TheHeld → List ℕ → Type 0
AnswersTakeCall h room answer t written = (r : Result Outcome UseFault) × (answer ≡ answer_of r) × TakesCallBy h room r t written

-- ---- a reply rule is set

abbrev pub RulesBy : TheHeld → List ℕ → Result Outcome UseFault → TheHeld → Type 0
RulesBy h (msg ∷ reply ∷ []) (Ok RuleSet) t = SetsRule h.end msg reply (Ok tt) t.end × ChangesEnd h t
RulesBy h (msg ∷ reply ∷ []) (Ok outcome) t = ⊥
RulesBy h (msg ∷ reply ∷ []) (Err (End UnknownMessage)) t =
    ((65536 ≤ msg) ⊎ ((65536 ≤ reply) ⊎ SetsRule h.end msg reply (Err UnknownMessage) h.end)) × (t ≡ h)
RulesBy h (msg ∷ reply ∷ []) (Err (End Misfit)) t = SetsRule h.end msg reply (Err Misfit) h.end × (t ≡ h)
RulesBy h (msg ∷ reply ∷ []) (Err fault) t = ⊥
RulesBy h numbers r t = (length numbers ≢ 2) × (r ≡ Err WrongRoom) × (t ≡ h)

-- ---- whether a call is in transmission

abbrev pub IsBusyBy : TheHeld → Result Outcome UseFault → Type 0
IsBusyBy h (Ok Sending) = is_busy h.end.outgoing ≡ true
IsBusyBy h (Ok Idle) = is_busy h.end.outgoing ≡ false
IsBusyBy h r = ⊥

-- an operation at an end, on these numbers
abbrev pub UsesEnd : TheHeld → Operation → List ℕ → Result Outcome UseFault → TheHeld → List ℕ → Type 0
UsesEnd h Tell numbers r t written = Tells h.side r t.side × (t.end ≡ h.end) × (t.calls ≡ h.calls) × (t.handled ≡ h.handled) × (written ≡ numbers)
UsesEnd h ToCall numbers r t written = CallsBy h numbers r t × (written ≡ numbers)
UsesEnd h Write numbers r t written = WritesBy h r t × (written ≡ numbers)
UsesEnd h Receive numbers r t written = ReceivesBy h r t × (written ≡ numbers)
UsesEnd h Read numbers r t written = ReadsBy h numbers r t written
UsesEnd h Rule numbers r t written = RulesBy h numbers r t × (written ≡ numbers)
UsesEnd h AskBusy numbers r t written = IsBusyBy h r × (t ≡ h) × (written ≡ numbers)
UsesEnd h operation numbers r t written = (r ≡ Err NoSuchOperation) × (t ≡ h) × (written ≡ numbers)
