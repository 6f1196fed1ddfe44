-- One core's monitor: its circuits, and what it has still to say on each link; what its events do, by their answers.
use Rattle.std.specs.Prelude.{ℕ, ◌≡◌, ◌≢◌, ◌++◌, ◌∷◌, [], true, false, Bool, nat_lt, List, length, slice_get, slice_set, drop}
use Rattle.std.specs.Prelude.{Option, Some, None, IsSome, Result, Ok, Err, if◌then◌else◌}
use Rattle.fl_base.specs.declared.fragment.Frag.{Frag}
use Rattle.fl_base.specs.declared.identity.CoreId.{CoreId}
use Rattle.fl_base.specs.declared.identity.LinkId.{LinkId}
use Rattle.fl_base.specs.declared.identity.Circuit.{Circuit}
use Rattle.fl_base.specs.Given.{given}
use Rattle.fl_hop.specs.declared.fault.HopFault.TheVariants.{NoLink, UsedUp as NoNumber, Misrouted as IsHere}
use Rattle.fl_hop.specs.Table.{TheCircuits, link_of, with_link}
use Rattle.fl_hop.specs.Numbers.{next_own}
use Rattle.fl_hop.specs.Openings.{open_fault, opened}
use Rattle.fl_compile.specs.declared.program.Program.{Program}
use Rattle.fl_compile.specs.Programs.{TheProgram, program_of}
use Rattle.fl_monitor.specs.declared.message.MonitorMessage.{MonitorMessage}
use Rattle.fl_monitor.specs.declared.message.MonitorMessage.TheVariants.{OpenCircuit}
use Rattle.fl_monitor.specs.declared.opening.Opening.{Opening}
use Rattle.fl_monitor.specs.declared.heard.MessageOutcome.{MessageOutcome}
use Rattle.fl_monitor.specs.declared.fault.MonitorFault.{MonitorFault}
use Rattle.fl_monitor.specs.declared.fault.MonitorFault.TheVariants.{Misrouted, Differs, NoRoute, UsedUp, OutboxFull, PlansDiffer, Memory}
use Rattle.fl_monitor.specs.Outboxes.{IsFragOf}
use Rattle.fl_monitor.specs.Routing.{is_route}
use Rattle.fl_monitor.specs.Fates.{Known}
use Rattle.fl_monitor.specs.declared.hearing.LinkMessage.{LinkMessage}
use Rattle.fl_monitor.specs.Hearing.{ComesTo, IsMisrouted, says, table_after}

pub record TheMonitor : Type 0 where
  pub circuits : TheCircuits
  -- by link, the fragments of the messages that wait there, first to last
  pub outboxes : List (List Frag)

-- what holds of every monitor: each link has its outbox
abbrev pub HasOutboxes : TheMonitor → Type 0
HasOutboxes m = length m.outboxes ≡ length m.circuits.links

-- the monitor of a core without links
abbrev pub fresh_monitor : ℕ → TheMonitor
fresh_monitor core = record { circuits = record { core = core; links = []; hops = [] }; outboxes = [] }

-- ---- links

-- with one link more, to this core, and its outbox, in which nothing waits
abbrev pub with_new_link : TheMonitor → CoreId → TheMonitor
with_new_link m neighbour = record { circuits = with_link m.circuits neighbour; outboxes = m.outboxes ++ [] ∷ [] }

-- a monitor to which a link was added, with nothing else since
pub record IsLinked (m : TheMonitor) : Type 0 where
  pub before : TheMonitor
  pub neighbour : CoreId
  pub monitor : m ≡ with_new_link before neighbour

-- ---- outboxes

-- an outbox holds 64 messages
abbrev pub has_room : List Frag → Bool
has_room outbox = nat_lt (length outbox) 64

abbrev pub can_say : List (List Frag) → ℕ → Bool
can_say outboxes l = given (slice_get outboxes l) false has_room

-- the message's fragment has come last into the outbox of its link
pub record IsQueuedMessage (s : LinkMessage) (before after : List (List Frag)) : Type 0 where
  pub outbox : List Frag
  pub there : slice_get before s.link.0 ≡ Some outbox
  pub frag : Frag
  pub is : IsFragOf frag s.message
  pub more : after ≡ slice_set before s.link.0 (outbox ++ frag ∷ [])

-- the same, where there is something to say
abbrev pub AllSaid : Option LinkMessage → List (List Frag) → List (List Frag) → Type 0
AllSaid None before after = after ≡ before
AllSaid (Some s) before after = IsQueuedMessage s before after

-- the outbox that is needed has room; where none is needed it has
abbrev pub may_say : Option LinkMessage → List (List Frag) → Bool
may_say None outboxes = true
may_say (Some s) outboxes = can_say outboxes s.link.0

-- ---- a message is heard

-- on link l, by the answer; memory is wanting only where something is said then
abbrev pub Hears : Known → LinkId → MonitorMessage → TheMonitor → Result MessageOutcome MonitorFault → TheMonitor → Type 0
Hears k l m before (Ok heard) after =
    ComesTo k before.circuits l m heard × (may_say (says l m heard) before.outboxes ≡ true)
    × (after.circuits ≡ table_after before.circuits l m heard)
    × AllSaid (says l m heard) before.outboxes after.outboxes
Hears k l m before (Err Misrouted) after = IsMisrouted k before.circuits l m × (after ≡ before)
Hears k l m before (Err OutboxFull) after =
    (heard : MessageOutcome) × ComesTo k before.circuits l m heard × (may_say (says l m heard) before.outboxes ≡ false) × (after ≡ before)
Hears k l m before (Err Memory) after =
    (heard : MessageOutcome) × ComesTo k before.circuits l m heard × (may_say (says l m heard) before.outboxes ≡ true) × (after ≡ before)
    × IsSome (says l m heard)
Hears k l m before (Err fault) after = ⊥

-- memory aside: what it comes to, where the outbox that is needed has room
abbrev pub MayHear : Known → LinkId → MonitorMessage → TheMonitor → MessageOutcome → Type 0
MayHear k l m n heard = ComesTo k n.circuits l m heard × (may_say (says l m heard) n.outboxes ≡ true)

-- and else why it isn't heard
abbrev pub NotHeard : Known → LinkId → MonitorMessage → TheMonitor → MonitorFault → Type 0
NotHeard k l m n Memory = ⊥
NotHeard k l m n fault = Hears k l m n (Err fault) n

-- ---- a circuit is asked for

-- the client's program and the one that the service was exported with; the service's core; the route; how many cores there are
pub record CircuitPrograms : Type 0 where
  pub client : TheProgram
  pub offered : TheProgram
  pub server : ℕ
  pub path : List CoreId
  pub cores : ℕ

abbrev pub wanted : Program → Program → CoreId → List CoreId → ℕ → CircuitPrograms
wanted client offered server path cores =
    record { client = program_of client; offered = program_of offered; server = server.0; path = path; cores = cores }

-- the link to the route's second core, where the route is one
abbrev pub first_link : TheCircuits → List CoreId → ℕ → ℕ → Option ℕ
first_link t path server cores =
    if is_route path t.core server cores then given (slice_get path 1) None (λ (c : CoreId). link_of t c.0) else None

-- whether a circuit may be asked for, and on which link
abbrev pub MayOpen : CircuitPrograms → TheCircuits → Result LinkId MonitorFault → Type 0
MayOpen w t (Err Differs) = w.client.interface ≢ w.offered.interface
MayOpen w t (Err PlansDiffer) = (w.client.interface ≡ w.offered.interface) × (w.client.plan ≢ w.offered.plan)
MayOpen w t (Err NoRoute) = (w.client ≡ w.offered) × (first_link t w.path w.server w.cores ≡ None)
MayOpen w t (Err fault) = ⊥
MayOpen w t (Ok link) = (w.client ≡ w.offered) × (first_link t w.path w.server w.cores ≡ Some link.0)

-- the message that asks for a circuit under number c
abbrev pub asks : Circuit → Opening → MonitorMessage
asks c o = OpenCircuit c o.binding o.service o.path

-- why no circuit is opened on link l for a binding: there is no such link, an entry of the binding stands here, or no number is left
abbrev pub RefusesOpening : TheCircuits → ℕ → ℕ → MonitorFault → Type 0
RefusesOpening t l binding NoRoute = open_fault t l binding ≡ Some NoLink
RefusesOpening t l binding Misrouted = open_fault t l binding ≡ Some IsHere
RefusesOpening t l binding UsedUp = open_fault t l binding ≡ Some NoNumber
RefusesOpening t l binding fault = ⊥

-- the client's entry is made under the next number of link l, and the opening goes into the outbox
abbrev pub Opens : LinkId → Opening → TheMonitor → Result Circuit MonitorFault → TheMonitor → Type 0
Opens l o before (Ok c) after =
    (open_fault before.circuits l.0 o.binding ≡ None) × (can_say before.outboxes l.0 ≡ true)
    × (next_own before.circuits l.0 ≡ Some c.0)
    × (after.circuits ≡ opened before.circuits l c o.binding)
    × IsQueuedMessage (record { link = l; message = asks c o }) before.outboxes after.outboxes
Opens l o before (Err OutboxFull) after =
    (open_fault before.circuits l.0 o.binding ≡ None) × (can_say before.outboxes l.0 ≡ false) × (after ≡ before)
Opens l o before (Err Memory) after =
    (open_fault before.circuits l.0 o.binding ≡ None) × (can_say before.outboxes l.0 ≡ true) × (after ≡ before)
Opens l o before (Err fault) after = RefusesOpening before.circuits l.0 o.binding fault × (after ≡ before)

-- memory aside: it is opened where no fault is due, and the link's outbox has room
pub record MayStart (l : LinkId) (o : Opening) (m : TheMonitor) : Type 0 where
  pub no_fault : open_fault m.circuits l.0 o.binding ≡ None
  pub room : can_say m.outboxes l.0 ≡ true

-- and else why it isn't
abbrev pub RefusesStart : LinkId → Opening → TheMonitor → MonitorFault → Type 0
RefusesStart l o m Memory = ⊥
RefusesStart l o m fault = Opens l o m (Err fault) m

-- ---- a message is sent

-- what waits for link l; nothing where there is no such link
abbrev pub waiting_for : List (List Frag) → ℕ → List Frag
waiting_for outboxes l = given (slice_get outboxes l) [] λ outbox. outbox

-- the first message that waits for link l is gone
abbrev pub without_first : ℕ → TheMonitor → TheMonitor
without_first l m = record { circuits = m.circuits; outboxes = slice_set m.outboxes l (drop 1 (waiting_for m.outboxes l)) }
