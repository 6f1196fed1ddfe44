-- The laws of what else a core keeps: the table of names, outboxes, and what a monitor makes of a message.
use Rattle.std.specs.Prelude.{ℕ, ◌≡◌, ◌≢◌, ◌+◌, List, [], ◌∷◌, ◌++◌, map, slice_get, Some, None, Result, Ok, Err}
use Rattle.fl_base.specs.declared.identity.Circuit.{Circuit}
use Rattle.fl_base.specs.declared.identity.CoreId.{CoreId}
use Rattle.fl_base.specs.Numbered.{core_id, link_id}
use Rattle.fl_hop.specs.Table.{with_link}
use Rattle.fl_nameserv.specs.Registrations.{TheRegistration, by_name, by_iref, with_registered}
use Rattle.fl_monitor.specs.declared.heard.MessageOutcome.{MessageOutcome}
use Rattle.fl_monitor.specs.declared.heard.MessageOutcome.TheVariants.{OpeningWentOn, ServerMade, OpeningFailed, AnswerWentOn, EndOpened, EndRefused}
use Rattle.fl_monitor.specs.declared.decision.OpeningFacts.{OpeningFacts}
use Rattle.fl_monitor.specs.declared.opening.Opening.{Opening as Asked}
use Rattle.fl_monitor.specs.declared.fault.MonitorFault.{MonitorFault}
use Rattle.fl_monitor.specs.declared.fault.MonitorFault.TheVariants.{Misrouted, OutboxFull, Memory}
use Rattle.fl_monitor.specs.Intermon.{HasWidths}
use Rattle.fl_monitor.specs.Fates.{Known}
use Rattle.fl_monitor.specs.Hearing.{IsMisrouted}
use Rattle.fl_monitor.specs.Monitors.{TheMonitor, fresh_monitor, waiting_for, without_first, Hears, Opens}
use Rattle.fl_monitor.specs.Monitors.{can_say as monitor_can_say}
use Rattle.fl_model.specs.Rings.{OpeningLabel, MonitorLabel, open_circuit, RingEnd}
use Rattle.fl_model.specs.Waits.{Dispatcher, has_places}
use Rattle.fl_model.specs.Monitors.{can_say, Link, Core, fresh_core, Service, service_of, link_to, next_on, Hearing, hears, opens}
use Rattle.fl_model.specs.Monitors.{Heard as MachineHeard, no_outbox, opening_went_on, server_made, opening_failed, answer_went_on}
use Rattle.fl_model.specs.Monitors.{end_opened, end_refused}
use Rattle.fl_model.specs.Binding.{place_of_service}
use Rattle.fl_model.specs.Forwarding.{without_first_said}
use Rattle.fl_world_refines.specs.Fragments.{said_frag, message_of, service_id}
use Rattle.fl_world_refines.specs.Cores.{MonitorShows, offer_of, NamesShow}

-- ---- names

-- the registration of a service with this interface reference
abbrev pub registration_of : ℕ → Service → TheRegistration
registration_of iref x = record { name = x.name; iref = iref; service = offer_of x }

-- what a look-up by interface reference finds, and one by name; and one service more is one registration more
pub record NamesAgree (services : List Service) (names : List TheRegistration) : Type 0 where
  pub found : (iref : ℕ) (x : Service) → service_of services iref ≡ Some x → by_iref iref names ≡ Some (registration_of iref x)
  pub none : (iref : ℕ) → service_of services iref ≡ None → by_iref iref names ≡ None
  pub named : (name : List ℕ) (place : ℕ) (x : Service) → place_of_service name services ≡ Some place → slice_get services place ≡ Some x
      → by_name name names ≡ Some (registration_of (place + 1) x)
  pub unnamed : (name : List ℕ) → place_of_service name services ≡ None → by_name name names ≡ None
  pub more : (x : Service) → NamesShow (services ++ x ∷ []) (with_registered names x.name (offer_of x))

-- so it is with each table that has the services in order
abbrev pub NamesAreShown : Type 0
NamesAreShown = (services : List Service) (names : List TheRegistration) → NamesShow services names → NamesAgree services names

-- ---- outboxes

-- the first message that waits for a link is the machine's, and so are the others once it is gone
pub record SendsFirst (l : ℕ) (link : Link) (k : Core) (m : TheMonitor) : Type 0 where
  pub next : (said : MonitorLabel) → slice_get link.outbox 0 ≡ Some said → slice_get (waiting_for m.outboxes l) 0 ≡ Some (said_frag said)
  pub widths : (said : MonitorLabel) → slice_get link.outbox 0 ≡ Some said → HasWidths (message_of said)
  pub none : slice_get link.outbox 0 ≡ None → slice_get (waiting_for m.outboxes l) 0 ≡ None
  pub gone : MonitorShows (without_first_said l k) (without_first l m)

-- so it is with each link of a core, where the monitor is what is shown of the core's
abbrev pub OutboxesAreShown : Type 0
OutboxesAreShown = (l : ℕ) (link : Link) (k : Core) (m : TheMonitor) → MonitorShows k m → slice_get k.links l ≡ Some link → SendsFirst l link k m

-- a core with one more link, whose ring is this, and its monitor
abbrev pub with_new_link : CoreId → RingEnd → Core → Core
with_new_link neighbour ring k = record {
  dispatchers = k.dispatchers;
  circuits = with_link k.circuits neighbour;
  links = k.links ++ record { ring = ring; outbox = [] } ∷ [];
}

abbrev pub with_empty_outbox : CoreId → TheMonitor → TheMonitor
with_empty_outbox neighbour m = record { circuits = with_link m.circuits neighbour; outboxes = m.outboxes ++ [] ∷ [] }

-- the monitor of a fresh core is its what is shown, and a monitor that is one stays so as a link is added
pub record MonitorsBegin : Type 0 where
  pub fresh : (core : ℕ) → MonitorShows (fresh_core core) (fresh_monitor core)
  pub linked : (k : Core) (m : TheMonitor) (neighbour : CoreId) (ring : RingEnd) → MonitorShows k m
      → MonitorShows (with_new_link neighbour ring k) (with_empty_outbox neighbour m)

-- an outbox has room where the machine's has
abbrev pub RoomsAgree : Type 0
RoomsAgree = (k : Core) (m : TheMonitor) (l : ℕ) → MonitorShows k m → monitor_can_say m.outboxes l ≡ can_say l k

-- ---- a circuit is opened

-- what is asked for, as the monitor is asked
abbrev pub asked_of : OpeningLabel → Asked
asked_of o = record { binding = o.binding; service = service_id o.service; path = map core_id o.path }

-- a monitor that is a core's what is shown is so still once both opened a circuit, under the opening's number
abbrev pub OpensAgree : Type 0
OpensAgree = (l : ℕ) (o : OpeningLabel) (k : Core) (before after : TheMonitor) (c : Circuit) → MonitorShows k before → c.0 ≡ o.circuit
    → Opens (link_id l) (asked_of o) before (Ok c) after → MonitorShows (opens l c.0 o k) after

-- ---- a message is heard

-- a monitor tells of it what the machine does
abbrev pub SameHeard : MachineHeard → MessageOutcome → Type 0
SameHeard (opening_went_on n c) (OpeningWentOn binding link circuit) = (binding ≡ n) × (circuit.0 ≡ c)
SameHeard (server_made n d c) (ServerMade binding dispatcher circuit) = (binding ≡ n) × (dispatcher ≡ d.place) × (circuit.0 ≡ c)
SameHeard (opening_failed n fault) (OpeningFailed binding reason) = (binding ≡ n) × (reason ≡ fault)
SameHeard (answer_went_on n) (AnswerWentOn binding link circuit) = binding ≡ n
SameHeard (end_opened e c) (EndOpened end circuit) = (end ≡ e) × (circuit.0 ≡ c)
SameHeard (end_refused e fault) (EndRefused end reason) = (end ≡ e) × (reason ≡ fault)
SameHeard heard other = ⊥

-- of an opening that ends here, what the monitor was told of its own core is so: whether the service's dispatcher
-- has a place
abbrev pub HasPlaceAt : List Service → OpeningLabel → Core → OpeningFacts → Type 0
HasPlaceAt services o k here = (x : Service) → next_on o.path k.circuits.core ≡ None → service_of services o.service ≡ Some x
    → (d : Dispatcher) × (slice_get k.dispatchers x.dispatcher.place ≡ Some d) × (here.has_place ≡ has_places 1 d)

-- its route doesn't lead back over the link on which it came
abbrev pub LeadsOn : ℕ → OpeningLabel → Core → Type 0
LeadsOn l o k = (next m : ℕ) → next_on o.path k.circuits.core ≡ Some next → link_to next k ≡ Some m → l ≢ m

-- what is asked of an opening before it is heard; of an answer nothing is
abbrev pub MayBeHeard : List Service → ℕ → MonitorLabel → Core → OpeningFacts → Type 0
MayBeHeard services l (open_circuit o) k here = HasPlaceAt services o k here × LeadsOn l o k
MayBeHeard services l said k here = Unit {0}

-- a message that is delivered to a core, over this link, where these services are exported
pub record Delivery : Type 0 where
  pub services : List Service
  pub link : ℕ
  pub said : MonitorLabel
  pub core : Core

abbrev pub delivery : List Service → ℕ → MonitorLabel → Core → Delivery
delivery services l said k = record { services = services; link = l; said = said; core = k }

-- what the machine's core makes of it
abbrev pub hearing_of : Delivery → Hearing
hearing_of x = hears x.services x.link x.said x.core

-- by the monitor's answer; where the message is left, or memory ran out, it shows the core as it was
abbrev pub HearAgrees : Known → Delivery → Result MessageOutcome MonitorFault → TheMonitor → Type 0
HearAgrees known x (Ok heard) after = SameHeard (hearing_of x).heard heard × MonitorShows (hearing_of x).core after
HearAgrees known x (Err OutboxFull) after = ((hearing_of x).heard ≡ no_outbox) × MonitorShows x.core after
HearAgrees known x (Err Misrouted) after = IsMisrouted known x.core.circuits (link_id x.link) (message_of x.said) × MonitorShows x.core after
HearAgrees known x (Err Memory) after = MonitorShows x.core after
HearAgrees known x (Err fault) after = ⊥

-- so it is with each message that may be heard, where the monitor knows the machine's services
abbrev pub HearsAgree : Type 0
HearsAgree = (known : Known) (x : Delivery) (before after : TheMonitor) (answer : Result MessageOutcome MonitorFault)
    → MonitorShows x.core before → NamesShow x.services known.names → MayBeHeard x.services x.link x.said x.core known.here
    → Hears known (link_id x.link) (message_of x.said) before answer after → HearAgrees known x answer after
