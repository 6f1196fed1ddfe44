-- What a core does once for each of its links, ends and dispatchers in a turn: an event or two. Where the side that it needs isn't lent,
-- nothing happens.
use Rattle.std.specs.Prelude.{ℕ, ◌≡◌, ◌⊎◌, ◌≤◌, ◌&&◌, not, nat_lt, Bool, true, false, List, length, is_some}
use Rattle.std.specs.Prelude.{Option, Some, None, Result, Ok, Err}
use Rattle.fl_base.specs.declared.identity.EndId.{EndId}
use Rattle.fl_base.specs.declared.identity.LinkId.{LinkId}
use Rattle.fl_base.specs.declared.identity.MsgNo.{MsgNo}
use Rattle.fl_base.specs.Numbered.{most_bindings}
use Rattle.fl_value_data.specs.declared.value.Call.{Call as AnyCall}
use Rattle.fl_value_data.specs.Value.{call_of}
use Rattle.fl_endpoint.specs.declared.fault.EndFault.{EndFault}
use Rattle.fl_endpoint.specs.declared.fault.EndFault.TheVariants as end
use Rattle.fl_endpoint.specs.declared.answer.WriteAnswer.{WriteAnswer}
use Rattle.fl_hop.specs.declared.forward.ForwardOutcome.{ForwardOutcome}
use Rattle.fl_core.specs.declared.turn_answer.TurnAnswer.{TurnAnswer}
use Rattle.fl_core.specs.declared.turn_answer.AckAnswer.{AckAnswer}
use Rattle.fl_core.specs.declared.board_fault.BoardFault.{BoardFault}
use Rattle.fl_core.specs.declared.board_fault.BoardFault.TheVariants as board
use Rattle.fl_monitor.specs.declared.fault.MonitorFault.TheVariants as monitor
use Rattle.fl_monitor.specs.Monitors.{can_say}
use Rattle.fl_core.specs.declared.answer.LinkFront.{LinkFront}
use Rattle.fl_core.specs.declared.answer.LinkFront.TheVariants.{Message, Onward, Arrival}
use Rattle.fl_core.specs.declared.answer.MonitorWrite.{MonitorWrite}
use Rattle.fl_core.specs.declared.answer.MonitorAnswer.{MonitorAnswer}
use Rattle.fl_core.specs.declared.fault.LinkReceiveFault.{LinkReceiveFault}
use Rattle.fl_core.specs.declared.fault.LinkReceiveFault.TheVariants as link
use Rattle.fl_core.specs.declared.fault.OpenFault.{OpenFault}
use Rattle.fl_core.specs.declared.fault.OpenFault.TheVariants as opening
use Rattle.fl_core.specs.View.{place_of, client_of}
use Rattle.fl_core.specs.declared.core_job.OpenRequest.{OpenRequest}
use Rattle.fl_core.specs.declared.core_job.CoreJob.{CoreJob}
use Rattle.fl_core.specs.declared.core_job.CoreJob.TheVariants as job
use Rattle.fl_core.specs.Jobs.{is_before_calls}
use Rattle.fl_core_run.specs.declared.lent.LentTakeEnd.{LentTakeEnd}
use Rattle.fl_core_run.specs.declared.lent.LentPutEnd.{LentPutEnd}
use Rattle.fl_core_run.specs.declared.lent.LentRingEnd.{LentRingEnd}
use Rattle.fl_core_run.specs.Run.{SideRelations, TheRun, next_job, lent_link_side, lent_post, lent_due, lent_ring_end}
use Rattle.fl_core_run.specs.LogEntries.{looked, passed, arrived, heard, said, told, opened, called, ruled, wrote, acked, turned, Happens}

-- ---- memory

-- it was refused: to a message that was to be heard, to an opening, to a call. A turn ends there, so in whole turns it never is
abbrev pub lacks_to_hear : Result MonitorAnswer LinkReceiveFault → Bool
lacks_to_hear (Err link.Memory) = true
lacks_to_hear answer = false

abbrev pub lacks_to_open : Result ℕ OpenFault → Bool
lacks_to_open (Err (opening.Board board.Memory)) = true
lacks_to_open (Err (opening.Monitor monitor.Memory)) = true
lacks_to_open answer = false

abbrev pub lacks_to_call : Result (Unit {0}) EndFault → Bool
lacks_to_call (Err end.Memory) = true
lacks_to_call answer = false

-- ---- for a link

-- what a look found is heard, passed on, or brought to an end
abbrev pub HandsOut : {S : Type 0} → SideRelations S → ℕ → LinkId → Result LinkFront LinkReceiveFault → TheRun S → TheRun S → Type 0
HandsOut w n l (Ok (Message frag)) s t =
    (answer : Result MonitorAnswer LinkReceiveFault) × Happens w (heard n l frag answer) s t × (lacks_to_hear answer ≡ false)
HandsOut w n l (Ok (Onward frag to c)) s t =
    ((outcome : ForwardOutcome) × Happens w (passed n to frag c outcome) s t) ⊎ (((n ≡ to) ⊎ (length s.rings ≤ to)) × (t ≡ s))
HandsOut w n l (Ok (Arrival frag e)) s t = (answer : Result ForwardOutcome LinkReceiveFault) × Happens w (arrived n l frag e answer) s t
HandsOut w n l found s t = t ≡ s

abbrev pub ForwardsOver : {S : Type 0} → SideRelations S → LinkId → Option ℕ → TheRun S → TheRun S → Type 0
ForwardsOver w l None s t = t ≡ s
ForwardsOver {S} w l (Some n) s t =
    (found : Result LinkFront LinkReceiveFault) × (m : TheRun S) × Happens w (looked n l found) s m × HandsOut w n l found m t

-- one forward
abbrev pub Forwards : {S : Type 0} → SideRelations S → LinkId → TheRun S → TheRun S → Type 0
Forwards w l s t = ForwardsOver w l (lent_link_side s l) s t

-- one monitor write
abbrev pub SaysOver : {S : Type 0} → SideRelations S → LinkId → Option ℕ → TheRun S → TheRun S → Type 0
SaysOver w l None s t = t ≡ s
SaysOver w l (Some n) s t = (answer : MonitorWrite) × Happens w (said n l answer) s t

abbrev pub Says : {S : Type 0} → SideRelations S → LinkId → TheRun S → TheRun S → Type 0
Says w l s t = SaysOver w l (lent_link_side s l) s t

-- one acknowledgement
abbrev pub TellsOver : {S : Type 0} → SideRelations S → LinkId → Option ℕ → TheRun S → TheRun S → Type 0
TellsOver w l None s t = t ≡ s
TellsOver w l (Some n) s t = (answer : AckAnswer) × Happens w (told n l answer) s t

abbrev pub Tells : {S : Type 0} → SideRelations S → LinkId → TheRun S → TheRun S → Type 0
Tells w l s t = TellsOver w l (lent_link_side s l) s t

-- ---- for an end: its next job, and a write

-- a circuit can be asked for: its dispatcher and program are there, the client's end isn't there yet, and the outbox has room
abbrev pub may_ask : {S : Type 0} → TheRun S → OpenRequest → Bool
may_ask s request =
    nat_lt request.dispatcher (length s.core.board.dispatchers) && nat_lt request.interface (length s.offers.programs)
    && nat_lt request.opening.binding most_bindings && not (is_some (place_of s.core (client_of request.opening.binding)))
    && can_say s.core.monitor.outboxes request.link.0

-- else the job waits
abbrev pub OpensIf : {S : Type 0} → SideRelations S → Bool → EndId → OpenRequest → TheRun S → TheRun S → Type 0
OpensIf w false name request s t = t ≡ s
OpensIf w true name request s t =
    (answer : Result ℕ OpenFault) × Happens w (opened name request answer) s t × (lacks_to_open answer ≡ false)

-- a call is tried where its end is there, and waits where that refuses it
abbrev pub CallsAt : {S : Type 0} → SideRelations S → EndId → AnyCall → Option ℕ → TheRun S → TheRun S → Type 0
CallsAt w name call None s t = t ≡ s
CallsAt w name call (Some e) s t =
    (answer : Result (Unit {0}) EndFault) × Happens w (called name (call_of call) answer) s t × (lacks_to_call answer ≡ false)

-- at this end a message is answered by this reply
pub record ReplyRule : Type 0 where
  pub end : EndId
  pub message : MsgNo
  pub reply : MsgNo

abbrev pub reply_rule : EndId → MsgNo → MsgNo → ReplyRule
reply_rule name msg reply = record { end = name; message = msg; reply = reply }

-- the rule is set where its end is there
abbrev pub RulesAt : {S : Type 0} → SideRelations S → ReplyRule → Option ℕ → TheRun S → TheRun S → Type 0
RulesAt w x None s t = t ≡ s
RulesAt w x (Some e) s t = (answer : Result (Unit {0}) EndFault) × Happens w (ruled x.end x.message x.reply answer) s t

-- by the job
abbrev pub Tries : {S : Type 0} → SideRelations S → EndId → Option CoreJob → TheRun S → TheRun S → Type 0
Tries w name None s t = t ≡ s
Tries w name (Some (job.Open request)) s t = OpensIf w (may_ask s request) name request s t
Tries w name (Some (job.Call e call)) s t = CallsAt w name call (place_of s.core name) s t
Tries w name (Some (job.Reply e msg reply)) s t = RulesAt w (reply_rule name msg reply) (place_of s.core name) s t

abbrev pub WritesFrom : {S : Type 0} → SideRelations S → EndId → Option LentPutEnd → TheRun S → TheRun S → Type 0
WritesFrom w name None s t = t ≡ s
WritesFrom w name (Some post) s t = (answer : Result WriteAnswer EndFault) × Happens w (wrote name post.outlet answer) s t

-- its next job, where that can be done, and then one write
abbrev pub Serves : {S : Type 0} → SideRelations S → List CoreJob → EndId → TheRun S → TheRun S → Type 0
Serves {S} w jobs name s t = (m : TheRun S) × Tries w name (next_job jobs s name) s m × WritesFrom w name (lent_post m name) m t

-- one acknowledgement, where the end is a ring's
abbrev pub AcksFrom : {S : Type 0} → SideRelations S → EndId → Option LentRingEnd → TheRun S → TheRun S → Type 0
AcksFrom w name None s t = t ≡ s
AcksFrom w name (Some ring_end) s t = (answer : Result AckAnswer BoardFault) × Happens w (acked name ring_end.side answer) s t

abbrev pub Acknowledges : {S : Type 0} → SideRelations S → EndId → TheRun S → TheRun S → Type 0
Acknowledges w name s t = AcksFrom w name (lent_ring_end s name) s t

-- ---- for a dispatcher: a turn

-- the end is still to be opened, or a reply rule is still to be set there: it takes nothing before that
abbrev pub awaits : {S : Type 0} → List CoreJob → TheRun S → EndId → Bool
awaits jobs s name = is_before_calls (next_job jobs s name)

-- a turn that is due: its dispatcher, and the end's name and place
pub record DueTurn : Type 0 where
  pub dispatcher : ℕ
  pub name : EndId
  pub due : LentTakeEnd

abbrev pub due_turn : ℕ → EndId → LentTakeEnd → DueTurn
due_turn d name due = record { dispatcher = d; name = name; due = due }

-- an end that awaits something has none
abbrev pub TurnsIf : {S : Type 0} → SideRelations S → Bool → DueTurn → TheRun S → TheRun S → Type 0
TurnsIf w true x s t = t ≡ s
TurnsIf w false x s t = (answer : TurnAnswer) × Happens w (turned x.dispatcher x.name x.due.inlet answer) s t

abbrev pub TurnsAt : {S : Type 0} → SideRelations S → List CoreJob → ℕ → Option LentTakeEnd → TheRun S → TheRun S → Type 0
TurnsAt w jobs d None s t = t ≡ s
TurnsAt w jobs d (Some due) s t = (name : EndId) × (place_of s.core name ≡ Some due.end) × TurnsIf w (awaits jobs s name) (due_turn d name due) s t

abbrev pub TakesTurn : {S : Type 0} → SideRelations S → List CoreJob → ℕ → TheRun S → TheRun S → Type 0
TakesTurn w jobs d s t = TurnsAt w jobs d (lent_due s d) s t
