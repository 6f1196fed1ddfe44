-- What events on links come to at a core, by cases on the answer, exactly: the monitor writes, a look at what stands first, and a fragment that
-- arrives for an end.
use Rattle.std.specs.Prelude.{ℕ, ◌≡◌, ◌≢◌, ◌∷◌, Bool, false, true, List, [], slice_get, Option, Some, None, Result, Ok, Err}
use Rattle.fl_base.specs.declared.fragment.Frag.{Frag}
use Rattle.fl_base.specs.declared.identity.EndId.{EndId}
use Rattle.fl_base.specs.declared.identity.LinkId.{LinkId}
use Rattle.fl_base.specs.declared.identity.Circuit.{Circuit}
use Rattle.fl_base.specs.Control.{bare}
use Rattle.fl_link.specs.Looks.{Look, placed, no_room, spent, told, kept}
use Rattle.fl_link.specs.Queue.{TheQueue, QueuePuts}
use Rattle.fl_hop.specs.declared.entry.HopTarget.TheVariants.{Link, End}
use Rattle.fl_hop.specs.declared.forward.HopFront.{HopFront}
use Rattle.fl_hop.specs.declared.forward.HopFront.TheVariants as first
use Rattle.fl_hop.specs.declared.fault.HopFault.{HopFault}
use Rattle.fl_hop.specs.declared.fault.HopFault.TheVariants as hop
use Rattle.fl_hop.specs.declared.forward.ForwardOutcome.{ForwardOutcome}
use Rattle.fl_hop.specs.declared.forward.ForwardOutcome.TheVariants as outcome
use Rattle.fl_hop.specs.Forward.{Finds, put_label, Leaves}
use Rattle.fl_hop.specs.OfCircuit.{as_carried}
use Rattle.fl_core.specs.declared.turn_answer.AckAnswer.{AckAnswer}
use Rattle.fl_core.specs.declared.turn_answer.AckAnswer.TheVariants as ack
use Rattle.fl_monitor.specs.Monitors.{waiting_for, without_first}
use Rattle.fl_core.specs.declared.answer.MonitorWrite.{MonitorWrite}
use Rattle.fl_core.specs.declared.answer.MonitorWrite.TheVariants as write
use Rattle.fl_core.specs.declared.answer.LinkFront.{LinkFront}
use Rattle.fl_core.specs.declared.answer.LinkFront.TheVariants.{Nothing, Acknowledged, Message, Onward, Arrival}
use Rattle.fl_core.specs.declared.fault.LinkReceiveFault.{LinkReceiveFault}
use Rattle.fl_core.specs.declared.fault.LinkReceiveFault.TheVariants.{Failed, Misrouted, Marked}
use Rattle.fl_core.specs.declared.wiring.LinkSide.{LinkSide}
use Rattle.fl_core.specs.View.{TheCore, with_monitor, with_failed, with_arrivals, side_of_link, arriving, arriving_at, with_board}
use Rattle.fl_core.specs.Ends.{AtSide, TriggersIf}

-- ---- the monitor writes

-- the first message that waits for link l goes on the link, where there is room
abbrev pub MonitorWrites : {P : Type 0} → (P → Look → P → Type 0) → ℕ → AtSide P → MonitorWrite → AtSide P → Type 0
MonitorWrites puts l a write.Written b =
    (f : Frag) × (rest : List Frag) × (waiting_for a.core.monitor.outboxes l ≡ f ∷ rest) × puts a.side (placed f) b.side
    × (b.core ≡ with_monitor a.core (without_first l a.core.monitor))
MonitorWrites puts l a write.Full b = (waiting_for a.core.monitor.outboxes l ≢ []) × puts a.side no_room b.side × (b.core ≡ a.core)
MonitorWrites puts l a write.Spent b = (waiting_for a.core.monitor.outboxes l ≢ []) × puts a.side spent b.side × (b.core ≡ a.core)
MonitorWrites puts l a write.Nothing b = (waiting_for a.core.monitor.outboxes l ≡ []) × (b.core ≡ a.core) × (b.side ≡ a.side)

-- ---- a look

-- whether what comes on link l has failed
pub record IsLinkSide (k : TheCore) (l : ℕ) (failed : Bool) : Type 0 where
  pub link_side : LinkSide
  pub link_side_is : slice_get k.link_sides l ≡ Some link_side
  pub failed_is : link_side.failed ≡ failed

-- a link of a core
pub record LinkOf : Type 0 where
  pub core : TheCore
  pub link : ℕ

abbrev pub link_of : TheCore → ℕ → LinkOf
link_of k l = record { core = k; link = l }

-- the link has not failed, and the core's table finds this there; the side goes from p to q
pub record Seen {T : Type 0} (takes : T → Look → T → Type 0) (front : T → Look) (at : LinkOf)
    (found : Result HopFront HopFault) (p q : T) : Type 0 where
  pub link_side : IsLinkSide at.core at.link false
  pub finds : Finds takes front (record { table = at.core.monitor.circuits; link = at.link }) found (record { before = p; after = q })

-- a fragment that goes on, to this side, on this circuit
pub record Going : Type 0 where
  pub frag : Frag
  pub side : ℕ
  pub circuit : Circuit

abbrev pub going : Frag → ℕ → Circuit → Going
going frag side circuit = record { frag = frag; side = side; circuit = circuit }

-- it stands first, and goes on over a link: by the side of that link's ring
pub record GoesOver {T : Type 0} (takes : T → Look → T → Type 0) (front : T → Look) (at : LinkOf) (x : Going) (p q : T) : Type 0 where
  pub link : LinkId
  pub seen : Seen takes front at (Ok (first.Goes x.frag (Link link x.circuit))) p q
  pub side_is : side_of_link at.core.link_sides link.0 ≡ Some x.side

abbrev pub LooksAhead : {T : Type 0} → (T → Look → T → Type 0) → (T → Look) → ℕ → AtSide T → Result LinkFront LinkReceiveFault → AtSide T → Type 0
LooksAhead takes front l a (Ok Nothing) b = Seen takes front (link_of a.core l) (Ok first.Nothing) a.side b.side × (b.core ≡ a.core)
LooksAhead takes front l a (Ok Acknowledged) b =
    Seen takes front (link_of a.core l) (Ok first.Acknowledged) a.side b.side × (b.core ≡ a.core)
LooksAhead takes front l a (Ok (Message frag)) b =
    Seen takes front (link_of a.core l) (Ok (first.Monitor frag)) a.side b.side × (b.core ≡ a.core)
LooksAhead takes front l a (Ok (Onward frag side circuit)) b =
    GoesOver takes front (link_of a.core l) (going frag side circuit) a.side b.side × (b.core ≡ a.core)
LooksAhead takes front l a (Ok (Arrival frag e)) b =
    Seen takes front (link_of a.core l) (Ok (first.Goes frag (End e))) a.side b.side × (b.core ≡ a.core)
-- what comes there failed earlier, and isn't looked at
LooksAhead takes front l a (Err Failed) b = IsLinkSide a.core l true × (b.core ≡ a.core) × (b.side ≡ a.side)
-- it fails now: a circuit without an entry, or a fragment of the wrong form
LooksAhead takes front l a (Err Misrouted) b =
    Seen takes front (link_of a.core l) (Err hop.Misrouted) a.side b.side × (b.core ≡ with_failed a.core l)
LooksAhead takes front l a (Err Marked) b =
    Seen takes front (link_of a.core l) (Err hop.Marked) a.side b.side × (b.core ≡ with_failed a.core l)
LooksAhead takes front l a (Err fault) b = ⊥

-- ---- a fragment arrives for an end

-- whose channel is triggered: that of the end, where the fragment moved
abbrev pub reached : ℕ → ForwardOutcome → Option ℕ
reached e outcome.Moved = Some e
reached e outcome = None

-- it is taken, stands last in the end's arrival queue, on circuit 0, and the end's channel is triggered; where the queue has no room it is left
pub record Arrives {T : Type 0} (takes : T → Look → T → Type 0) (frag : Frag) (name : EndId) (a : AtSide T)
    (outcome : ForwardOutcome) (b : AtSide T) : Type 0 where
  pub end : ℕ
  pub queue : ℕ
  pub at : arriving_at a.core name ≡ Some (arriving end queue)
  pub before : TheQueue
  pub before_is : slice_get a.core.arrivals queue ≡ Some before
  pub after : TheQueue
  pub puts : QueuePuts before (put_label outcome (as_carried frag)) after
  pub left : Leaves takes outcome (bare frag) (record { before = a.side; after = b.side })
  pub triggers : TriggersIf (reached end outcome) a.core.board b.core.board
  pub rest : b.core ≡ with_board (with_arrivals a.core queue after) b.core.board

-- a fragment that is to arrive, from a link, at an end
pub record Inbound : Type 0 where
  pub link : ℕ
  pub frag : Frag
  pub end : EndId

abbrev pub inbound : ℕ → Frag → EndId → Inbound
inbound l frag e = record { link = l; frag = frag; end = e }

-- an end to which an entry of the link leads isn't at this core: the fragment is left
abbrev pub ArrivesAt : {T : Type 0} → (T → Look → T → Type 0) → Inbound → AtSide T → Result ForwardOutcome LinkReceiveFault → AtSide T → Type 0
ArrivesAt takes x a (Ok outcome) b = Arrives takes x.frag x.end a outcome b
ArrivesAt takes x a (Err Misrouted) b = (arriving_at a.core x.end ≡ None) × (b.core ≡ with_failed a.core x.link) × (b.side ≡ a.side)
ArrivesAt takes x a (Err fault) b = ⊥

-- ---- a core acknowledges

-- what the side of a link tells
abbrev pub Acknowledges : {T : Type 0} → (T → Look → T → Type 0) → T → AckAnswer → T → Type 0
Acknowledges takes p ack.Done q = takes p told q
Acknowledges takes p ack.Nothing q = takes p kept q
Acknowledges takes p ack.Full q = takes p no_room q
