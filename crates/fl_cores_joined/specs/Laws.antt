-- The laws of joined cores: what one of them does is the machine's event of that name, and together they show
-- what the machine comes to.
use Rattle.std.specs.Prelude.{ℕ, ◌≡◌, ◌≤◌, ◌+◌, false, List, length, Some, Result, Ok, Err}
use Rattle.fl_base.specs.declared.fragment.Frag.{Frag}
use Rattle.fl_base.specs.declared.identity.EndId.{EndId}
use Rattle.fl_base.specs.declared.identity.LinkId.{LinkId}
use Rattle.fl_base.specs.declared.identity.MsgNo.{MsgNo}
use Rattle.fl_base.specs.declared.identity.Circuit.{Circuit}
use Rattle.fl_value_data.specs.Value.{TheCall}
use Rattle.fl_hop.specs.declared.forward.ForwardOutcome.{ForwardOutcome}
use Rattle.fl_monitor.specs.Monitors.{first_link}
use Rattle.fl_nameserv.specs.Registrations.{TheRegistration, by_iref, by_name}
use Rattle.fl_ring.specs.SharedSides.{TheSide}
use Rattle.fl_endpoint.specs.declared.fault.EndFault.{EndFault}
use Rattle.fl_endpoint.specs.declared.answer.WriteAnswer.{WriteAnswer}
use Rattle.fl_core.specs.declared.turn_answer.TurnAnswer.{TurnAnswer}
use Rattle.fl_core.specs.declared.turn_answer.AckAnswer.{AckAnswer}
use Rattle.fl_core.specs.declared.board_fault.BoardFault.{BoardFault}
use Rattle.fl_core.specs.declared.answer.LinkFront.{LinkFront}
use Rattle.fl_core.specs.declared.answer.LinkFront.TheVariants.{Message, Onward, Arrival}
use Rattle.fl_core.specs.declared.answer.MonitorAnswer.{MonitorAnswer}
use Rattle.fl_core.specs.declared.answer.MonitorWrite.{MonitorWrite}
use Rattle.fl_core.specs.declared.fault.LinkReceiveFault.{LinkReceiveFault}
use Rattle.fl_core.specs.declared.wiring.Outlet.{Outlet}
use Rattle.fl_core.specs.declared.wiring.Inlet.{Inlet}
use Rattle.fl_model.specs.Events.{Event, call, reply, write, ack, turn, forward, monitor_write, monitor_ack}
use Rattle.fl_model.specs.Events.{Answer, bind, done}
use Rattle.fl_model.specs.State.{State}
use Rattle.fl_model.specs.Step.{step}
use Rattle.fl_core.specs.declared.core_job.CoreJob.{CoreJob}
use Rattle.fl_core.specs.declared.core_job.OpenRequest.{OpenRequest}
use Rattle.fl_core.specs.declared.fault.OpenFault.{OpenFault}
use Rattle.fl_core_run.specs.LogEntries.{LogEntry, looked, passed, arrived, heard, said, told, opened}
use Rattle.fl_core_run.specs.LogEntries.{called, ruled}
use Rattle.fl_core_run.specs.LogEntries.{wrote, acked, turned}
use Rattle.fl_core_run.specs.Run.{TheRun}
use Rattle.fl_core_run.specs.Steps.{lacks_to_hear, lacks_to_open, lacks_to_call}
use Rattle.fl_world_refines.specs.View.{TheWorld}
use Rattle.fl_world_refines.specs.ShowsState.{Shows}
use Rattle.fl_world_refines.specs.Taking.{turn_answer}
use Rattle.fl_world_refines.specs.Linking.{write_answer as monitor_answer, ack_answer, moved_answer}
use Rattle.fl_cores_joined.specs.Joined.{JoinedCore, IsJoined, AreWhole}
use Rattle.fl_cores_joined.specs.Steps.{HappensAt, call_answer, rule_answer, write_answer, acked_answer}
use Rattle.fl_cores_joined.specs.Steps.{look_answer, arrival_answer, heard_answer, neighbour_on}
use Rattle.fl_cores_joined.specs.Steps.{opening_event, opened_answer}

-- the cores make a world that shows this state
pub record TheyShow (xs : List JoinedCore) (s : State) : Type 0 where
  pub world : TheWorld
  pub joined : IsJoined world xs
  pub shows : Shows world s

-- how many bindings there are then: one more where a bind is done
abbrev pub and_made : Event → Answer → ℕ → ℕ
and_made (bind client interface name kind) done count = count + 1
and_made event answer count = count

-- the machine answers the same to this event, and the cores show its next state, of so many bindings
pub record MachineDoes (event : Event) (answer : Answer) (s : State) (ys : List JoinedCore) : Type 0 where
  pub answers : (step s event).answer ≡ answer
  pub shows : TheyShow ys (step s event).state
  pub count : length (step s event).state.bindings ≡ and_made event answer (length s.bindings)

-- so it is of a core's event, of cores that show a state, each of which is whole before and after
abbrev pub IsTheMachines : LogEntry → ℕ → Event → Answer → Type 0
IsTheMachines log_entry n event answer = (jobs : List CoreJob) (xs ys : List JoinedCore) (s : State)
    → TheyShow xs s → AreWhole xs → AreWhole ys → HappensAt jobs n log_entry xs ys
    → MachineDoes event answer s ys

-- the same of an event on a link, to the core across, as the core's own table has it
abbrev pub IsTheMachinesOnLink : LogEntry → ℕ → LinkId → (ℕ → Event) → Answer → Type 0
IsTheMachinesOnLink log_entry n l event answer = (jobs : List CoreJob) (xs ys : List JoinedCore) (s : State)
    → TheyShow xs s → AreWhole xs → AreWhole ys → (h : HappensAt jobs n log_entry xs ys)
    → MachineDoes (event (neighbour_on h.before.run.core l)) answer s ys

-- ---- the events

-- a write, wherever the end puts
abbrev pub WritesJoin : Type 0
WritesJoin = (n : ℕ) (name : EndId) (out : Outlet) (answer : Result WriteAnswer EndFault)
    → IsTheMachines (wrote name out answer) n (write name) (write_answer answer)

-- a dispatcher's turn, wherever the end that is due takes from
abbrev pub TurnsJoin : Type 0
TurnsJoin = (n d : ℕ) (name : EndId) (from : Inlet) (answer : TurnAnswer)
    → IsTheMachines (turned d name from answer) n (turn (record { core = n; place = d })) (turn_answer name answer)

-- an end tells what it took from a ring
abbrev pub AcksJoin : Type 0
AcksJoin = (n : ℕ) (name : EndId) (side : ℕ) (answer : Result AckAnswer BoardFault)
    → IsTheMachines (acked name side answer) n (ack name) (acked_answer answer)

-- a call, to which memory isn't refused, and a reply rule
abbrev pub CallsJoin : Type 0
CallsJoin = (n : ℕ) (name : EndId) (c : TheCall) (answer : Result (Unit {0}) EndFault)
    → lacks_to_call answer ≡ false
    → IsTheMachines (called name c answer) n (call name c) (call_answer answer)

abbrev pub RulesJoin : Type 0
RulesJoin = (n : ℕ) (name : EndId) (msg answer : MsgNo) (r : Result (Unit {0}) EndFault)
    → IsTheMachines (ruled name msg answer r) n (reply name msg.0 answer.0) (rule_answer r)

-- on a link: a monitor writes, what was taken is told, and a look leaves nothing to follow
abbrev pub MonitorsJoin : Type 0
MonitorsJoin = (n side : ℕ) (l : LinkId) (answer : MonitorWrite)
    → IsTheMachinesOnLink (said side l answer) n l (monitor_write n) (monitor_answer answer)

abbrev pub TellsJoin : Type 0
TellsJoin = (n side : ℕ) (l : LinkId) (answer : AckAnswer)
    → IsTheMachinesOnLink (told side l answer) n l (monitor_ack n) (ack_answer answer)

abbrev pub LooksJoin : Type 0
LooksJoin = (n side : ℕ) (l : LinkId) (found : Result LinkFront LinkReceiveFault) (answer : Answer)
    → look_answer found ≡ Some answer → IsTheMachinesOnLink (looked side l found) n l (forward n) answer

-- a look that finds a fragment for an end of the core, with the fragment's arrival behind it
abbrev pub ArrivalsJoin : Type 0
ArrivalsJoin = (n side : ℕ) (l : LinkId) (frag : Frag) (e : EndId)
    (answer : Result ForwardOutcome LinkReceiveFault)
    (jobs : List CoreJob) (xs ms ys : List JoinedCore) (s : State)
    → TheyShow xs s → AreWhole xs → AreWhole ys
    → (h : HappensAt jobs n (looked side l (Ok (Arrival frag e))) xs ms)
    → HappensAt jobs n (arrived side l frag e answer) ms ys
    → MachineDoes (forward n (neighbour_on h.before.run.core l)) (arrival_answer answer) s ys

-- a look that finds one which goes on over another link, with its passing on behind it
abbrev pub PassesJoin : Type 0
PassesJoin = (n side to : ℕ) (l : LinkId) (frag : Frag) (c : Circuit) (outcome : ForwardOutcome)
    (jobs : List CoreJob) (xs ms ys : List JoinedCore) (s : State)
    → TheyShow xs s → AreWhole xs
    → (h : HappensAt jobs n (looked side l (Ok (Onward frag to c))) xs ms)
    → HappensAt jobs n (passed side to frag c outcome) ms ys
    → MachineDoes (forward n (neighbour_on h.before.run.core l)) (moved_answer outcome) s ys

-- a look that finds a monitors' message, with its hearing behind it, to which memory isn't refused
abbrev pub HearsJoin : Type 0
HearsJoin = (n side : ℕ) (l : LinkId) (frag : Frag) (answer : Result MonitorAnswer LinkReceiveFault)
    (jobs : List CoreJob) (xs ms ys : List JoinedCore) (s : State)
    → TheyShow xs s → AreWhole xs → AreWhole ys → lacks_to_hear answer ≡ false
    → (h : HappensAt jobs n (looked side l (Ok (Message frag))) xs ms)
    → HappensAt jobs n (heard side l frag answer) ms ys
    → MachineDoes (forward n (neighbour_on h.before.run.core l)) (heard_answer answer) s ys

-- ---- circuits

-- one is asked for as a job does that was accepted: the service has this reference and a name of its own, and
-- is offered under this interface; and of so many cores the route leads from this one, over this link, to the
-- service's
pub record AsksRightly (cores : ℕ) (r : TheRun TheSide) (request : OpenRequest) : Type 0 where
  pub service : TheRegistration
  pub registered : by_iref request.opening.service.0 r.offers.names ≡ Some service
  pub named : by_name service.name r.offers.names ≡ Some service
  pub interface : service.service.interface ≡ request.interface
  pub leads : first_link r.core.monitor.circuits request.opening.path service.service.core.0 cores
      ≡ Some request.link.0

-- of so many bindings that there are, an opening with this answer has the number of the next; where its own
-- core refuses it no binding is made, and it may have any number that none has yet
abbrev pub IsNumbered : ℕ → Result ℕ OpenFault → ℕ → Type 0
IsNumbered count (Ok e) number = number ≡ count
IsNumbered count (Err fault) number = count ≤ number

-- it is asked for so, and so numbered; memory isn't refused to it
abbrev pub OpensJoin : Type 0
OpensJoin = (n : ℕ) (name : EndId) (request : OpenRequest) (answer : Result ℕ OpenFault)
    (jobs : List CoreJob) (xs ys : List JoinedCore) (s : State)
    → lacks_to_open answer ≡ false → TheyShow xs s → AreWhole xs → AreWhole ys
    → (h : HappensAt jobs n (opened name request answer) xs ys)
    → AsksRightly (length xs) h.before.run request
    → IsNumbered (length s.bindings) answer request.opening.binding
    → MachineDoes (opening_event n h.before.run request) (opened_answer answer) s ys
