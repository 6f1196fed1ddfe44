-- What a core makes of a monitors' message that stands first on a link.
use Rattle.std.specs.Prelude.{ℕ, ◌≡◌, ◌==◌, ◌&&◌, ◌||◌, nat_lt, Bool, false, List, length, is_some, slice_get}
use Rattle.std.specs.Prelude.{Option, Some, None, IsSome, Result, Ok, Err, if◌then◌else◌}
use Rattle.fl_base.specs.declared.fragment.Frag.{Frag}
use Rattle.fl_base.specs.declared.identity.LinkId.{LinkId}
use Rattle.fl_base.specs.declared.identity.Circuit.{Circuit}
use Rattle.fl_base.specs.Control.{bare}
use Rattle.fl_base.specs.Given.{given}
use Rattle.fl_compile.specs.declared.program.Program.{Program}
use Rattle.fl_compile.specs.Programs.{program_of}
use Rattle.fl_endpoint.specs.View.{fresh, bound}
use Rattle.fl_wire.specs.declared.fault.WireFault.TheVariants as wiring
use Rattle.fl_link.specs.Looks.{Look, found}
use Rattle.fl_link.specs.Queue.{TheQueue, QueueTakes}
use Rattle.fl_nameserv.specs.Registrations.{TheRegistration, by_iref}
use Rattle.fl_core.specs.declared.kind.ChannelKind.TheVariants.{Queue}
use Rattle.fl_core.specs.declared.board_fault.BoardFault.{BoardFault}
use Rattle.fl_core.specs.BoardView.{TheBoard}
use Rattle.fl_core.specs.BoardEvents.{ChangesEnd, Adds}
use Rattle.fl_monitor.specs.declared.message.MonitorMessage.{MonitorMessage}
use Rattle.fl_monitor.specs.declared.decision.OpeningFacts.{OpeningFacts}
use Rattle.fl_monitor.specs.declared.heard.MessageOutcome.{MessageOutcome}
use Rattle.fl_monitor.specs.declared.heard.MessageOutcome.TheVariants as heard
use Rattle.fl_monitor.specs.declared.fault.MonitorFault.TheVariants as monitor
use Rattle.fl_monitor.specs.Fates.{Known}
use Rattle.fl_monitor.specs.Hearing.{opening_of, says}
use Rattle.fl_monitor.specs.Saying.{Says, Refuses}
use Rattle.fl_monitor.specs.Monitors.{TheMonitor, Hears, MayHear}
use Rattle.fl_core.specs.declared.wiring.ArrivalPlace.{ArrivalPlace}
use Rattle.fl_core.specs.declared.hearing.OfferedService.{OfferedService}
use Rattle.fl_core.specs.declared.answer.MonitorAnswer.{MonitorAnswer}
use Rattle.fl_core.specs.declared.answer.MonitorAnswer.TheVariants.{Full, Done, Opened, OpeningRefused}
use Rattle.fl_core.specs.declared.fault.LinkReceiveFault.{LinkReceiveFault}
use Rattle.fl_core.specs.declared.fault.LinkReceiveFault.TheVariants.{Wire, Misrouted, Memory}
use Rattle.fl_core.specs.View.{TheCore, with_board, with_monitor, with_failed, with_circuit_wired_end, client_of, server_of, place_of}
use Rattle.fl_core.specs.View.{arriving_at, new_arrivals}
use Rattle.fl_core.specs.BoardTurns.{over}
use Rattle.fl_core.specs.Ends.{RegistersAt}

-- ---- what a core knows when it hears a message

-- the table of names, and the programs of the services, by the places of their interfaces
pub record Offers : Type 0 where
  pub names : List TheRegistration
  pub programs : List Program

-- an end of the binding is made here
abbrev pub has_end : TheCore → ℕ → Bool
has_end k binding = is_some (place_of k (client_of binding)) || is_some (place_of k (server_of binding))

-- the dispatcher has a place for one more end
abbrev pub has_place : TheBoard → ℕ → Bool
has_place b n = given (slice_get b.dispatchers n) false λ d. nat_lt (length d.ends) 1024

-- the service is one of this core's, its dispatcher has a place, and its program is lent
abbrev pub may_offer : Offers → TheCore → TheRegistration → Bool
may_offer o k r =
    (r.service.core.0 == k.monitor.circuits.core) && has_place k.board r.service.dispatcher && nat_lt r.service.interface (length o.programs)

-- the dispatcher that offers a service here, and the place of the service's program among those that are lent
abbrev pub offer_of : Offers → TheCore → ℕ → Option OfferedService
offer_of o k iref =
    given (by_iref iref o.names) None λ r.
    if may_offer o k r then Some (record { dispatcher = r.service.dispatcher; interface = r.service.interface }) else None

-- the offer that an opening asks for
abbrev pub offer_for : Offers → TheCore → MonitorMessage → Option OfferedService
offer_for o k m = given (opening_of m) None λ opening. offer_of o k opening.service.0

-- of a message that is no opening the core knows nothing
abbrev pub here_for : Offers → TheCore → MonitorMessage → OpeningFacts
here_for o k m = record {
  has_end = given (opening_of m) false λ opening. has_end k opening.binding;
  has_place = is_some (offer_for o k m);
}

abbrev pub known_for : Offers → TheCore → MonitorMessage → Known
known_for o k m = record { names = o.names; here = here_for o k m }

-- ---- what follows

-- a copy of the program of an offer
pub record IsCopyFor (programs : List Program) (offer : Option OfferedService) (program : Program) : Type 0 where
  pub offered : OfferedService
  pub offered_is : offer ≡ Some offered
  pub source : Program
  pub source_is : slice_get programs offered.interface ≡ Some source
  pub same : program_of program ≡ program_of source

-- the end at a place is registered, over an empty arrival queue that is its own
abbrev pub Joins : ℕ → TheBoard → TheBoard → Type 0
Joins e b c = (r : Result (Unit {0}) BoardFault) × RegistersAt QueueTakes e (over b new_arrivals) r (over c new_arrivals)

-- what a server's end may be made of, where a message asks for one: the programs that are lent, the offer of the service, and the link that
-- the message came over
pub record Offering : Type 0 where
  pub programs : List Program
  pub offer : Option OfferedService
  pub link : LinkId

abbrev pub offering : List Program → Option OfferedService → LinkId → Offering
offering programs offer l = record { programs = programs; offer = offer; link = l }

-- the server's end of the binding is there, with the offered program, at this dispatcher, with an arrival queue, bound to the circuit and registered
pub record MakesServer (x : Offering) (binding dispatcher : ℕ) (c : Circuit) (k k2 : TheCore) : Type 0 where
  pub program : Program
  pub program_is : IsCopyFor x.programs x.offer program
  pub end : ℕ
  pub added : TheBoard
  pub adds : Adds k.board dispatcher (fresh program (Some c.0)) Queue (Ok end) added
  pub joins : Joins end added k2.board
  pub rest : k2 ≡ with_circuit_wired_end k k2.board end (server_of binding) x.link

-- the end of a name is bound to the circuit, and registered over its arrival queue
pub record Binds (at : ArrivalPlace) (c : Circuit) (k k2 : TheCore) : Type 0 where
  pub bound_board : TheBoard
  pub binds : ChangesEnd k.board at.end (λ s t. t ≡ bound s c.0) bound_board
  pub queue : TheQueue
  pub queue_is : slice_get k.arrivals at.queue ≡ Some queue
  pub answer : Result (Unit {0}) BoardFault
  pub registers : RegistersAt QueueTakes at.end (over bound_board queue) answer (over k2.board queue)
  pub rest : k2 ≡ with_board k k2.board

-- an end that isn't at this core isn't bound
abbrev pub BindsIf : Option ArrivalPlace → Circuit → TheCore → TheCore → Type 0
BindsIf None c k k2 = k2 ≡ k
BindsIf (Some at) c k k2 = Binds at c k k2

-- what the core does when its monitor has heard the message, and what it answers
abbrev pub Follows : Offering → MessageOutcome → TheCore → MonitorAnswer → TheCore → Type 0
Follows x (heard.ServerMade binding dispatcher c) k told k2 =
    (told ≡ Opened (server_of binding)) × MakesServer x binding dispatcher c k k2
Follows x (heard.EndOpened e c) k told k2 = (told ≡ Opened e) × BindsIf (arriving_at k e) c k k2
Follows x (heard.EndRefused e reason) k told k2 = (told ≡ OpeningRefused e reason) × (k2 ≡ k)
Follows x (heard.OpeningWentOn binding n c) k told k2 = (told ≡ Done) × (k2 ≡ k)
Follows x (heard.OpeningFailed binding reason) k told k2 = (told ≡ Done) × (k2 ≡ k)
Follows x (heard.AnswerWentOn binding n c) k told k2 = (told ≡ Done) × (k2 ≡ k)

-- ---- a message is heard

-- it was read, its monitor heard it, and what follows was done
pub record HearsAll (o : Offers) (l : LinkId) (m : MonitorMessage) (k : TheCore) (told : MonitorAnswer) (k2 : TheCore) : Type 0 where
  pub heard : MessageOutcome
  pub monitor : TheMonitor
  pub hears : Hears (known_for o k m) l m k.monitor (Ok heard) monitor
  pub follows : Follows (offering o.programs (offer_for o k m) l) heard (with_monitor k monitor) told k2

abbrev pub HearsMessage : Offers → LinkId → MonitorMessage → TheCore → Result MonitorAnswer LinkReceiveFault → TheCore → Type 0
HearsMessage o l m k (Ok Full) k2 = Hears (known_for o k m) l m k.monitor (Err monitor.OutboxFull) k.monitor × (k2 ≡ k)
HearsMessage o l m k (Ok told) k2 = HearsAll o l m k told k2
HearsMessage o l m k (Err Misrouted) k2 = Hears (known_for o k m) l m k.monitor (Err monitor.Misrouted) k.monitor × (k2 ≡ with_failed k l.0)
HearsMessage o l m k (Err Memory) k2 = k2 ≡ k
HearsMessage o l m k (Err fault) k2 = ⊥

-- memory is wanting last: only where the message would be heard, and something is said then
abbrev pub HearsLast : Offers → LinkId → MonitorMessage → TheCore → LinkReceiveFault → Type 0
HearsLast o l m k Memory = (heard : MessageOutcome) × MayHear (known_for o k m) l m k.monitor heard × IsSome (says l m heard)
HearsLast o l m k fault = Unit {0}

-- the same of the message that a fragment says
abbrev pub HearsFragLast : Offers → LinkId → Frag → TheCore → LinkReceiveFault → Type 0
HearsFragLast o l frag k Memory = (m : MonitorMessage) × Says frag m × HearsLast o l m k Memory
HearsFragLast o l frag k fault = Unit {0}

-- what becomes of the side: what was heard is taken, and what was not is left
abbrev pub TakesHeard : {T : Type 0} → (T → Look → T → Type 0) → Frag → T → Result MonitorAnswer LinkReceiveFault → T → Type 0
TakesHeard takes frag p (Ok Full) q = q ≡ p
TakesHeard takes frag p (Ok told) q = takes p (found (bare frag)) q
TakesHeard takes frag p (Err fault) q = q ≡ p

-- the fragment, which was seen to stand first on link l, says a message, which is heard; or it says none, and what comes there has failed
abbrev pub HearsFrag : Offers → LinkId → Frag → TheCore → Result MonitorAnswer LinkReceiveFault → TheCore → Type 0
HearsFrag o l frag k (Err (Wire wiring.Memory)) k2 = ⊥
HearsFrag o l frag k (Err (Wire fault)) k2 = Refuses frag fault × (k2 ≡ with_failed k l.0)
HearsFrag o l frag k (Err Memory) k2 = k2 ≡ k
HearsFrag o l frag k answer k2 = (m : MonitorMessage) × Says frag m × HearsMessage o l m k answer k2
