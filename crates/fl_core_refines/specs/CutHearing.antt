-- What the machine makes of a cut when its core hears a monitors' message.
use Rattle.std.specs.Prelude.{ℕ, ◌≡◌, ◌⊎◌, ◌+◌, false, List, [], length, slice_get, slice_set, Option, Some, None, Result, Ok, Err}
use Rattle.fl_base.specs.declared.identity.EndId.{EndId}
use Rattle.fl_base.specs.declared.identity.LinkId.{LinkId}
use Rattle.fl_base.specs.Control.{bare}
use Rattle.fl_ring.specs.SharedSides.{TheSide}
use Rattle.fl_monitor.specs.declared.message.MonitorMessage.{MonitorMessage}
use Rattle.fl_monitor.specs.declared.message.MonitorMessage.TheVariants.{OpenCircuit, CircuitOpened, CircuitRefused}
use Rattle.fl_monitor.specs.Saying.{Says}
use Rattle.fl_core.specs.declared.answer.MonitorAnswer.{MonitorAnswer}
use Rattle.fl_core.specs.declared.answer.MonitorAnswer.TheVariants.{Full, Done, Opened, OpeningRefused}
use Rattle.fl_core.specs.declared.fault.LinkReceiveFault.{LinkReceiveFault}
use Rattle.fl_core.specs.declared.fault.LinkReceiveFault.TheVariants.{Memory}
use Rattle.fl_core.specs.View.{arrivals_by, failed_at, circuit_wired_end, server_of}
use Rattle.fl_core.specs.Hearing.{here_for}
use Rattle.fl_core_run.specs.Run.{TheRun}
use Rattle.fl_model.specs.Events.{DispatcherId}
use Rattle.fl_model.specs.Given.{changed_at}
use Rattle.fl_model.specs.Rings.{MonitorLabel, open_circuit, circuit_opened, circuit_refused, says}
use Rattle.fl_model.specs.Ends.{Seat}
use Rattle.fl_model.specs.Waits.{Dispatcher, waits_in, registers}
use Rattle.fl_model.specs.Monitors.{Service, service_of, Hearing, hears}
use Rattle.fl_model.specs.Monitors.{Heard, no_outbox, opening_went_on, server_made, opening_failed, answer_went_on, end_opened, end_refused}
use Rattle.fl_model.specs.Calls.{Planned}
use Rattle.fl_world_refines.specs.CoreLaws.{MayBeHeard}
use Rattle.fl_core_refines.specs.CutSides.{gave_one, SideGives}
use Rattle.fl_core_refines.specs.CutEnds.{EndCut}
use Rattle.fl_core_refines.specs.Cut.{QueueCut, CoreCut}
use Rattle.fl_core_refines.specs.CutEvents.{EndAt, with_waits}
use Rattle.fl_core_refines.specs.CutLinks.{OverOne, FragAtSide}
use Rattle.fl_core_refines.specs.CutOpening.{new_arrivals, new_end, next_seat, with_new_end, opening_with}

-- ---- a message, as the machine has it

abbrev pub said_of : MonitorMessage → MonitorLabel
said_of (OpenCircuit c binding service path) = open_circuit (opening_with c.0 (record { binding = binding; service = service; path = path }))
said_of (CircuitOpened c) = circuit_opened c.0
said_of (CircuitRefused c reason) = circuit_refused c.0 reason

-- the service for which it asks
abbrev pub asked_service : List Service → MonitorMessage → Option Service
asked_service services (OpenCircuit c binding service path) = service_of services service.0
asked_service services m = None

-- how many cores its route has, if it asks for a circuit
abbrev pub route_length : MonitorMessage → ℕ
route_length (OpenCircuit c binding service path) = length path
route_length m = 0

-- what follows a message turns on these: the service for which it asks, if it does; the stations of its route; and the link on which it came
pub record ReceivedRequest : Type 0 where
  pub service : Option Service
  pub stations : ℕ
  pub link : LinkId

abbrev pub request_of : List Service → LinkId → MonitorMessage → ReceivedRequest
request_of services l m = record { service = asked_service services m; stations = route_length m + 1; link = l }

-- what the machine makes of the core by it, with these services
abbrev pub hearing : List Service → ℕ → MonitorMessage → CoreCut → Hearing
hearing services l m a = hears services l (said_of m) a.core

-- ---- what follows

-- the channel at a seat is registered, by what stands in its queue
abbrev pub registers_seat : Option Seat → QueueCut → List Dispatcher → List Dispatcher
registers_seat None x waits = waits
registers_seat (Some seat) x waits = changed_at seat.dispatcher.place (registers seat.channel (waits_in (Some x.queue))) waits

-- on this circuit now
abbrev pub bound_to : ℕ → EndCut → EndCut
bound_to c x = record x { end = record x.end { circuit = Some c } }

-- a server's end that is to be made: its binding, its dispatcher, and the number of its circuit
pub record NewServer : Type 0 where
  pub binding : ℕ
  pub dispatcher : DispatcherId
  pub circuit : ℕ

-- it is made as the request has it, bound to its circuit, and its channel registered
pub record MakesServer (request : ReceivedRequest) (server : NewServer) (a b : CoreCut) : Type 0 where
  pub service : Service
  pub service_is : request.service ≡ Some service
  -- of the service's program, of which the end has a copy
  pub planned : Planned
  pub planned_is : slice_get a.plans service.interface ≡ Some planned
  pub waits : Dispatcher
  pub waits_is : slice_get a.core.dispatchers server.dispatcher.place ≡ Some waits
  pub end : EndCut
  pub end_is : end ≡ new_end (circuit_wired_end (server_of server.binding) request.link (length a.arrivals)) planned request.stations
      (next_seat a.core.circuits.core server.dispatcher.place waits)
  pub made : CoreCut
  pub made_is : made ≡ with_new_end server.dispatcher.place waits (bound_to server.circuit end) a
  pub rest : b ≡ with_waits made (registers_seat end.end.seat new_arrivals made.core.dispatchers)

-- an end of this core is bound to this circuit, and its channel registered
pub record BindsEnd (name : EndId) (c : ℕ) (a b : CoreCut) : Type 0 where
  pub at : EndAt a name
  pub number : ℕ
  pub number_is : arrivals_by at.end.wired_end.wiring ≡ Some number
  pub queue : QueueCut
  pub queue_is : slice_get a.arrivals number ≡ Some queue
  pub rest : b ≡ record (with_waits a (registers_seat at.end.end.seat queue a.core.dispatchers)) { ends = slice_set a.ends at.place (bound_to c at.end) }

-- where it is at this core, and on a circuit
abbrev pub BindsIf : EndId → ℕ → CoreCut → CoreCut → Type 0
BindsIf name c a b = BindsEnd name c a b ⊎ (((at : EndAt a name) → arrivals_by at.end.wired_end.wiring ≡ None) × (b ≡ a))

-- by what the machine hears, from the cut in which the message was taken and the core's table and outboxes are as after it
abbrev pub ThenFollows : ReceivedRequest → Heard → MonitorAnswer → CoreCut → CoreCut → Type 0
ThenFollows request (opening_went_on n c) told a b = (told ≡ Done) × (b ≡ a)
ThenFollows request (opening_failed n fault) told a b = (told ≡ Done) × (b ≡ a)
ThenFollows request (answer_went_on n) told a b = (told ≡ Done) × (b ≡ a)
ThenFollows request (server_made n d c) told a b =
    (told ≡ Opened (server_of n)) × MakesServer request (record { binding = n; dispatcher = d; circuit = c }) a b
ThenFollows request (end_opened e c) told a b = (told ≡ Opened e) × BindsIf e c a b
ThenFollows request (end_refused e fault) told a b = (told ≡ OpeningRefused e fault) × (b ≡ a)
ThenFollows request other told a b = ⊥

-- it was taken, and heard
pub record Hears (services : List Service) (incoming : FragAtSide) (told : MonitorAnswer) (a b : CoreCut) : Type 0 where
  pub message : MonitorMessage
  pub says_it : Says incoming.frag message
  pub middle : CoreCut
  pub sides : OverOne a.sides incoming.side (SideGives (says (said_of message)) (gave_one (bare incoming.frag))) middle.sides
  pub middle_is : middle ≡ record a { core = (hearing services incoming.link.0 message a).core; sides = middle.sides }
  pub follows : ThenFollows (request_of services incoming.link message) (hearing services incoming.link.0 message a).heard told middle b

abbrev pub HearsOver : List Service → FragAtSide → Result MonitorAnswer LinkReceiveFault → CoreCut → CoreCut → Type 0
HearsOver services incoming (Ok Full) a b =
    (m : MonitorMessage) × Says incoming.frag m × ((hearing services incoming.link.0 m a).heard ≡ no_outbox) × (b ≡ a)
HearsOver services incoming (Ok told) a b = Hears services incoming told a b
HearsOver services incoming (Err Memory) a b = b ≡ a
-- the machine has no such case: the fragment says nothing, or the message is out of its place. What comes on the link has failed
HearsOver services incoming (Err fault) a b = b ≡ record a { link_sides = failed_at a.link_sides incoming.link.0 }

-- ---- the messages that come

-- an end to which an answer comes isn't bound yet, so nothing was accepted there, and it never failed
pub record IsUnbound (x : EndCut) : Type 0 where
  pub circuit : x.end.circuit ≡ None
  pub accepted : x.end.out.accepted ≡ []
  pub waiting : x.end.out.waiting ≡ []
  pub sound : x.failed ≡ false

-- the message is one that comes to a core of the machine: an opening leads on, and of one that ends here the dispatcher is there, and its program is lent; an
-- answer comes to an end that waits for it, where that is on a circuit
pub record IsInOrder (services : List Service) (l : ℕ) (a : CoreCut) (s : TheRun TheSide) (m : MonitorMessage) : Type 0 where
  pub may : MayBeHeard services l (said_of m) a.core (here_for s.offers s.core m)
  pub unbound : (e : EndId) (c number : ℕ) (at : EndAt a e) → (hearing services l m a).heard ≡ end_opened e c
      → arrivals_by at.end.wired_end.wiring ≡ Some number → IsUnbound at.end
