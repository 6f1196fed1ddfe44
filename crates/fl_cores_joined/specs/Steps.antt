-- What the cores do together, one after another, where each look finds what stands in its ring at that
-- moment; and what of it is asked of the machine.
use Rattle.std.specs.Prelude.{ℕ, ◌≡◌, false, List, [], ◌∷◌, map}
use Rattle.std.specs.Prelude.{slice_get, slice_set, Option, Some, None}
use Rattle.std.specs.Prelude.{Result, Ok, Err}
use Rattle.fl_base.specs.declared.identity.CoreId.{CoreId}
use Rattle.fl_base.specs.declared.identity.LinkId.{LinkId}
use Rattle.fl_base.specs.Given.{given}
use Rattle.fl_ring.specs.SharedSeats.{front_seen}
use Rattle.fl_nameserv.specs.Registrations.{TheRegistration, by_iref}
use Rattle.fl_ring.specs.SharedSides.{TheSide, SharedPuts, SharedTakes}
use Rattle.fl_hop.specs.declared.forward.ForwardOutcome.{ForwardOutcome}
use Rattle.fl_hop.specs.declared.links.LinkState.{LinkState}
use Rattle.fl_endpoint.specs.declared.fault.EndFault.{EndFault}
use Rattle.fl_endpoint.specs.declared.answer.WriteAnswer.{WriteAnswer}
use Rattle.fl_endpoint.specs.declared.answer.WriteAnswer.TheVariants.{Written, Full as FullWrite}
use Rattle.fl_endpoint.specs.declared.answer.WriteAnswer.TheVariants.{Nothing as NothingWritten}
use Rattle.fl_endpoint.specs.Faults.{fault_number}
use Rattle.fl_core.specs.declared.turn_answer.AckAnswer.{AckAnswer}
use Rattle.fl_core.specs.declared.board_fault.BoardFault.{BoardFault}
use Rattle.fl_core.specs.BoardFaults.{fault_number as board_number}
use Rattle.fl_core.specs.declared.answer.LinkFront.{LinkFront}
use Rattle.fl_core.specs.declared.answer.LinkFront.TheVariants as front
use Rattle.fl_core.specs.declared.answer.MonitorAnswer.{MonitorAnswer}
use Rattle.fl_core.specs.declared.answer.MonitorAnswer.TheVariants as answered
use Rattle.fl_core.specs.declared.fault.LinkReceiveFault.{LinkReceiveFault}
use Rattle.fl_core.specs.declared.fault.OpenFault.{OpenFault}
use Rattle.fl_core.specs.Faults.{open_number, link_number}
use Rattle.fl_core.specs.View.{TheCore}
use Rattle.fl_core.specs.declared.core_job.CoreJob.{CoreJob}
use Rattle.fl_core.specs.declared.core_job.OpenRequest.{OpenRequest}
use Rattle.fl_core_run.specs.Run.{SideRelations, ways, TheRun}
use Rattle.fl_core_run.specs.LogEntries.{LogEntry, looked, passed, arrived, heard, said, told}
use Rattle.fl_core_run.specs.LogEntries.{opened, called, ruled, wrote, acked, turned, Happens}
use Rattle.fl_core_run.specs.Steps.{lacks_to_hear, lacks_to_open, lacks_to_call}
use Rattle.fl_core_run_laws.specs.Logs.{InPlace}
use Rattle.fl_model.specs.Events.{Event, by_route, bind, call, reply, write, turn, ack, forward}
use Rattle.fl_model.specs.Events.{monitor_write, monitor_ack}
use Rattle.fl_model.specs.Events.{Answer}
use Rattle.fl_model.specs.Events.{done, accepted, nothing, full, written, opened as circuit_opened}
use Rattle.fl_model.specs.Events.{opening_refused, refused}
use Rattle.fl_model.specs.Runs.{Exchange}
use Rattle.fl_world_refines.specs.Taking.{turn_answer}
use Rattle.fl_world_refines.specs.Linking.{write_answer as monitor_answer, ack_answer, moved_answer}
use Rattle.fl_cores_joined.specs.Rings.{FacingSide, Truly}
use Rattle.fl_cores_joined.specs.Joined.{JoinedCore, alone, IsBeside}

-- ---- one event of one core

-- how sides of rings put and take, where each load finds what stands there
abbrev pub true_ways : SideRelations FacingSide
true_ways = ways (Truly SharedPuts) (Truly SharedTakes) (λ (p : FacingSide). front_seen p.side.peeked)

-- by it core n alone goes on; it happens in its place, and its loads find what stands in the rings then
pub record HappensAt (jobs : List CoreJob) (n : ℕ) (log_entry : LogEntry)
    (xs ys : List JoinedCore) : Type 0 where
  pub before : JoinedCore
  pub before_is : slice_get xs n ≡ Some before
  pub beside : TheRun FacingSide
  pub beside_is : IsBeside xs before beside
  pub after : TheRun FacingSide
  pub happens : Happens true_ways log_entry beside after
  pub in_place : InPlace jobs beside log_entry
  pub rest : ys ≡ slice_set xs n (record before { run = alone after })

-- ---- a moment of a run

-- an event that is whole in itself: not a look that leaves something to follow, nor what follows one; and
-- memory isn't refused to it
abbrev pub IsWholeEvent : LogEntry → Type 0
IsWholeEvent (looked side l (Ok (front.Message frag))) = ⊥
IsWholeEvent (looked side l (Ok (front.Onward frag to c))) = ⊥
IsWholeEvent (looked side l (Ok (front.Arrival frag e))) = ⊥
IsWholeEvent (passed side to frag c outcome) = ⊥
IsWholeEvent (arrived side l frag e answer) = ⊥
IsWholeEvent (heard side l frag answer) = ⊥
IsWholeEvent (called name c answer) = lacks_to_call answer ≡ false
IsWholeEvent (opened name request answer) = lacks_to_open answer ≡ false
IsWholeEvent log_entry = Unit {0}

-- what a look found is heard, passed on, or brought to an end
abbrev pub Follows : LogEntry → LogEntry → Type 0
Follows (looked side l (Ok (front.Message frag))) (heard n m f answer) = (n ≡ side) × (m ≡ l) × (f ≡ frag)
    × (lacks_to_hear answer ≡ false)
Follows (looked side l (Ok (front.Onward frag to c))) (passed n m f d outcome) = (n ≡ side) × (m ≡ to)
    × (f ≡ frag) × (d ≡ c)
Follows (looked side l (Ok (front.Arrival frag e))) (arrived n m f d answer) = (n ≡ side) × (m ≡ l)
    × (f ≡ frag) × (d ≡ e)
Follows look log_entry = ⊥

-- a core's event; or a look at what stands first on a link with what follows it there, at the moment of that:
-- what stood first stands first still, since this side alone takes it
pub data Moment : Type 0 where
  does : ℕ → LogEntry → Moment
  forwards : ℕ → LogEntry → LogEntry → Moment

abbrev pub Passes : List CoreJob → Moment → List JoinedCore → List JoinedCore → Type 0
Passes jobs (does n log_entry) xs ys = IsWholeEvent log_entry × HappensAt jobs n log_entry xs ys
Passes jobs (forwards n look follows) xs ys =
    Follows look follows × ((ms : List JoinedCore) × HappensAt jobs n look xs ms
    × HappensAt jobs n follows ms ys)

-- moments one after another
abbrev pub Interleaves : List CoreJob → List JoinedCore → List Moment → List JoinedCore → Type 0
Interleaves jobs xs [] ys = ys ≡ xs
Interleaves jobs xs (x ∷ moments) ys = (ms : List JoinedCore) × Passes jobs x xs ms
    × Interleaves jobs ms moments ys

-- ---- what is asked of the machine, and how it answers

abbrev pub call_answer : Result (Unit {0}) EndFault → Answer
call_answer (Ok unit) = accepted
call_answer (Err fault) = refused (fault_number fault)

abbrev pub opened_answer : Result ℕ OpenFault → Answer
opened_answer (Ok e) = done
opened_answer (Err fault) = refused (open_number fault)

abbrev pub rule_answer : Result (Unit {0}) EndFault → Answer
rule_answer (Ok unit) = done
rule_answer (Err fault) = refused (fault_number fault)

abbrev pub write_answer : Result WriteAnswer EndFault → Answer
write_answer (Ok (Written k n)) = written k n
write_answer (Ok FullWrite) = full
write_answer (Ok NothingWritten) = nothing
write_answer (Err fault) = refused (fault_number fault)

abbrev pub acked_answer : Result AckAnswer BoardFault → Answer
acked_answer (Ok answer) = ack_answer answer
acked_answer (Err fault) = refused (board_number fault)

-- a look that leaves nothing to follow
abbrev pub look_answer : Result LinkFront LinkReceiveFault → Option Answer
look_answer (Ok front.Nothing) = Some nothing
look_answer (Ok front.Acknowledged) = Some done
look_answer (Ok found) = None
look_answer (Err fault) = Some (refused (link_number fault))

abbrev pub arrival_answer : Result ForwardOutcome LinkReceiveFault → Answer
arrival_answer (Ok outcome) = moved_answer outcome
arrival_answer (Err fault) = refused (link_number fault)

abbrev pub heard_answer : Result MonitorAnswer LinkReceiveFault → Answer
heard_answer (Ok answered.Full) = full
heard_answer (Ok answered.Done) = done
heard_answer (Ok (answered.Opened e)) = circuit_opened e
heard_answer (Ok (answered.OpeningRefused e reason)) = opening_refused reason e
heard_answer (Err fault) = refused (link_number fault)

abbrev pub exchange : Event → Answer → Exchange
exchange event answer = record { event = event; answer = answer }

abbrev pub asked : Event → Answer → List Exchange
asked event answer = exchange event answer ∷ []

-- the core across link l
abbrev pub neighbour_on : TheCore → LinkId → ℕ
neighbour_on k l = given (slice_get k.monitor.circuits.links l.0) 0 λ (link : LinkState). link.neighbour.0

-- the name of the service of a reference
abbrev pub name_of : List TheRegistration → ℕ → List ℕ
name_of names iref = given (by_iref iref names) [] λ (r : TheRegistration). r.name

abbrev pub cores_of : List CoreId → List ℕ
cores_of path = map (λ (c : CoreId). c.0) path

-- core n asks for a circuit under the names that it knows
abbrev pub opening_event : ℕ → TheRun TheSide → OpenRequest → Event
opening_event n r request =
    bind (record { core = n; place = request.dispatcher }) request.interface
    (name_of r.offers.names request.opening.service.0) (by_route (cores_of request.opening.path))

-- by one event of core n, which is this one
abbrev pub asks : ℕ → TheRun TheSide → LogEntry → List Exchange
asks n r (looked side l answer) =
    given (look_answer answer) [] λ a. asked (forward n (neighbour_on r.core l)) a
asks n r (said side l answer) = asked (monitor_write n (neighbour_on r.core l)) (monitor_answer answer)
asks n r (told side l answer) = asked (monitor_ack n (neighbour_on r.core l)) (ack_answer answer)
asks n r (opened name request answer) = asked (opening_event n r request) (opened_answer answer)
asks n r (called name c answer) = asked (call name c) (call_answer answer)
asks n r (ruled name msg answer reply_set) = asked (reply name msg.0 answer.0) (rule_answer reply_set)
asks n r (wrote name out answer) = asked (write name) (write_answer answer)
asks n r (acked name side answer) = asked (ack name) (acked_answer answer)
asks n r (turned d name from answer) = asked (turn (record { core = n; place = d })) (turn_answer name answer)
asks n r log_entry = []

-- what follows a look answers for both
abbrev pub follow_answer : LogEntry → Option Answer
follow_answer (passed side to frag c outcome) = Some (moved_answer outcome)
follow_answer (arrived side l frag e answer) = Some (arrival_answer answer)
follow_answer (heard side l frag answer) = Some (heard_answer answer)
follow_answer log_entry = None

abbrev pub forward_asks : ℕ → TheRun TheSide → LogEntry → LogEntry → List Exchange
forward_asks n r (looked side l found) follows =
    given (follow_answer follows) [] λ a. asked (forward n (neighbour_on r.core l)) a
forward_asks n r look follows = []
