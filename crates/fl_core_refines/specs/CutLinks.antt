-- What the machine makes of a cut by each event on a link: a look, a fragment that goes on or arrives, a monitor's write, what is told.
use Rattle.std.specs.Prelude.{ℕ, ◌≡◌, ◌≢◌, Bool, true, false, List, slice_get, slice_set, Option, Some, None, Result, Ok, Err}
use Rattle.fl_base.specs.declared.fragment.Frag.{Frag}
use Rattle.fl_base.specs.declared.identity.EndId.{EndId}
use Rattle.fl_base.specs.declared.identity.LinkId.{LinkId}
use Rattle.fl_base.specs.declared.identity.Circuit.{Circuit}
use Rattle.fl_base.specs.Control.{bare, circuit_of, with_circuit, is_ack_only}
use Rattle.fl_base.specs.Given.{given}
use Rattle.fl_hop.specs.declared.entry.HopTarget.TheVariants.{Link as ToLink, End as ToEnd}
use Rattle.fl_hop.specs.declared.forward.ForwardOutcome.{ForwardOutcome}
use Rattle.fl_hop.specs.declared.forward.ForwardOutcome.TheVariants.{Moved, Full, Spent}
use Rattle.fl_hop.specs.Table.{hop_at}
use Rattle.fl_hop.specs.Later.{way_at}
use Rattle.fl_hop.specs.OfCircuit.{as_carried}
use Rattle.fl_core.specs.declared.turn_answer.TurnAnswer.{TurnAnswer}
use Rattle.fl_core.specs.declared.turn_answer.AckAnswer.{AckAnswer}
use Rattle.fl_core.specs.declared.turn_answer.AckAnswer.TheVariants as ack
use Rattle.fl_core.specs.declared.answer.LinkFront.{LinkFront}
use Rattle.fl_core.specs.declared.answer.LinkFront.TheVariants.{Nothing, Acknowledged, Message, Onward, Arrival}
use Rattle.fl_core.specs.declared.answer.MonitorWrite.{MonitorWrite}
use Rattle.fl_core.specs.declared.answer.MonitorWrite.TheVariants as write
use Rattle.fl_core.specs.declared.fault.LinkReceiveFault.{LinkReceiveFault}
use Rattle.fl_core.specs.declared.fault.LinkReceiveFault.TheVariants.{Failed, Misrouted, Marked}
use Rattle.fl_core.specs.declared.wiring.LinkSide.{LinkSide}
use Rattle.fl_core.specs.View.{side_of_link, arrivals_by, place_in, failed_at}
use Rattle.fl_model.specs.Rings.{MonitorLabel, Label, says}
use Rattle.fl_model.specs.Forwarding.{without_first_said}
use Rattle.fl_world_refines.specs.Fragments.{said_frag}
use Rattle.fl_core_refines.specs.CutSides.{SideCut, goes_on, is_full, is_spent, Places, nothing_stands, left_one, gave_one, gave_ack, SideGives}
use Rattle.fl_core_refines.specs.CutSides.{is_told, is_little, finds_none, Tells}
use Rattle.fl_core_refines.specs.Cut.{QueueCut, CoreCut}
use Rattle.fl_core_refines.specs.CutEvents.{QueuePlaces, queue_gives, EndAt, triggers_end, with_waits, HasTurn}

-- a side or queue of number n of a list alone has changed, as the event says
pub record OverOne {P : Type 0} (xs : List P) (n : ℕ) (Event : P → P → Type 0) (ys : List P) : Type 0 where
  pub before : P
  pub before_is : slice_get xs n ≡ Some before
  pub after : P
  pub event : Event before after
  pub rest : ys ≡ slice_set xs n after

-- ---- a look

-- whether what comes on link l has failed
abbrev pub HasFailed : CoreCut → ℕ → Bool → Type 0
HasFailed a l failed = (link_side : LinkSide) × (slice_get a.link_sides l ≡ Some link_side) × (link_side.failed ≡ failed)

-- a call's fragment or a monitors' message stands first, and is left there
abbrev pub Leaves : Frag → SideCut → SideCut → Type 0
Leaves frag v w = (label : Label) × SideGives label (left_one (bare frag)) v w

-- by what is found; a call's fragment is found to go the way of its circuit's entry
abbrev pub Finds : CoreCut → ℕ → Result LinkFront LinkReceiveFault → SideCut → SideCut → Type 0
Finds a l (Ok Nothing) v w = HasFailed a l false × ((label : Label) × SideGives label nothing_stands v w)
Finds a l (Ok Acknowledged) v w = HasFailed a l false × ((label : Label) × SideGives label gave_ack v w)
Finds a l (Ok (Message frag)) v w = HasFailed a l false × (circuit_of frag.control ≡ 0) × Leaves frag v w
Finds a l (Ok (Onward frag side c)) v w =
    HasFailed a l false × (circuit_of frag.control ≢ 0)
    × ((m : LinkId) × (way_at a.core.circuits l (circuit_of frag.control) ≡ Some (ToLink m c)) × (side_of_link a.link_sides m.0 ≡ Some side))
    × Leaves frag v w
Finds a l (Ok (Arrival frag e)) v w =
    HasFailed a l false × (circuit_of frag.control ≢ 0) × (way_at a.core.circuits l (circuit_of frag.control) ≡ Some (ToEnd e)) × Leaves frag v w
-- the machine has none of these: what comes there failed earlier; or it fails now, for a circuit without an entry, or a fragment of the wrong form
Finds a l (Err Failed) v w = HasFailed a l true × (w ≡ v)
Finds a l (Err Misrouted) v w =
    HasFailed a l false
    × ((frag : Frag) × (circuit_of frag.control ≢ 0) × (hop_at a.core.circuits l (circuit_of frag.control) ≡ None) × Leaves frag v w)
Finds a l (Err Marked) v w = HasFailed a l false × ((frag : Frag) × (is_ack_only (with_circuit 0 frag) ≡ true) × Leaves frag v w)
Finds a l (Err fault) v w = ⊥

abbrev pub link_sides_after : ℕ → Result LinkFront LinkReceiveFault → List LinkSide → List LinkSide
link_sides_after l (Err Misrouted) link_sides = failed_at link_sides l
link_sides_after l (Err Marked) link_sides = failed_at link_sides l
link_sides_after l answer link_sides = link_sides

pub record LooksOver (n : ℕ) (l : LinkId) (answer : Result LinkFront LinkReceiveFault) (a b : CoreCut) : Type 0 where
  pub look : OverOne a.sides n (Finds a l.0 answer) b.sides
  pub rest : b ≡ record a { sides = b.sides; link_sides = link_sides_after l.0 answer a.link_sides }

-- ---- a fragment goes on from one side to another: its label is put there, and then taken here

pub record ForwardCut : Type 0 where
  pub from : ℕ
  pub to : ℕ
  pub frag : Frag
  -- on the link to which it goes
  pub circuit : Circuit

abbrev pub PassesOver : ForwardCut → ForwardOutcome → CoreCut → CoreCut → Type 0
PassesOver passage Moved a b =
    (label : Label) × (sides : List SideCut) × OverOne a.sides passage.to (Places label (goes_on (bare (with_circuit passage.circuit.0 passage.frag)))) sides
    × OverOne sides passage.from (SideGives label (gave_one (bare passage.frag))) b.sides × (b ≡ record a { sides = b.sides })
PassesOver passage Full a b = (label : Label) × OverOne a.sides passage.to (Places label is_full) b.sides × (b ≡ record a { sides = b.sides })
PassesOver passage Spent a b = (label : Label) × OverOne a.sides passage.to (Places label is_spent) b.sides × (b ≡ record a { sides = b.sides })

-- ---- it arrives for the end of a name: its label comes into the end's arrival queue, where that has room, and the end's channel is triggered

-- a fragment that came over this link, and stands first at this side
pub record FragAtSide : Type 0 where
  pub side : ℕ
  pub link : LinkId
  pub frag : Frag

pub record ArrivesIn (name : EndId) (a : CoreCut) (Event : QueueCut → QueueCut → Type 0) (queues : List QueueCut) : Type 0 where
  pub at : EndAt a name
  pub number : ℕ
  pub number_is : arrivals_by at.end.wired_end.wiring ≡ Some number
  pub queue : OverOne a.arrivals number Event queues

abbrev pub ArrivesOver : FragAtSide → EndId → Result ForwardOutcome LinkReceiveFault → CoreCut → CoreCut → Type 0
ArrivesOver incoming name (Ok Moved) a b =
    (label : Label) × ArrivesIn name a (QueuePlaces label (goes_on (as_carried incoming.frag))) b.arrivals
    × OverOne a.sides incoming.side (SideGives label (gave_one (bare incoming.frag))) b.sides
    × (b ≡ record (with_waits a (triggers_end (place_in a.places name) a.ends a.core.dispatchers)) { sides = b.sides; arrivals = b.arrivals })
ArrivesOver incoming name (Ok Full) a b = (label : Label) × ArrivesIn name a (QueuePlaces label is_full) a.arrivals × (b ≡ a)
ArrivesOver incoming name (Ok Spent) a b = ⊥
-- an entry that leads to an end that isn't here, which the machine has no case for: what comes on the link has failed
ArrivesOver incoming name (Err Misrouted) a b = b ≡ record a { link_sides = failed_at a.link_sides incoming.link.0 }
ArrivesOver incoming name (Err fault) a b = ⊥

-- ---- a monitor writes the first message of its outbox

-- what is to be said first on the machine's link of this number
abbrev pub first_said : CoreCut → ℕ → Option MonitorLabel
first_said a l = given (slice_get a.core.links l) None λ link. slice_get link.outbox 0

abbrev pub SaysOver : ℕ → LinkId → MonitorWrite → CoreCut → CoreCut → Type 0
SaysOver n l write.Written a b =
    (m : MonitorLabel) × (first_said a l.0 ≡ Some m) × OverOne a.sides n (Places (says m) (goes_on (said_frag m))) b.sides
    × (b ≡ record a { core = without_first_said l.0 a.core; sides = b.sides })
SaysOver n l write.Full a b =
    (m : MonitorLabel) × (first_said a l.0 ≡ Some m) × OverOne a.sides n (Places (says m) is_full) b.sides × (b ≡ record a { sides = b.sides })
SaysOver n l write.Spent a b =
    (m : MonitorLabel) × (first_said a l.0 ≡ Some m) × OverOne a.sides n (Places (says m) is_spent) b.sides × (b ≡ record a { sides = b.sides })
SaysOver n l write.Nothing a b = (first_said a l.0 ≡ None) × (b ≡ a)

-- ---- a core tells what it took from a link

abbrev pub TellsBy : AckAnswer → SideCut → SideCut → Type 0
TellsBy ack.Done v w = Tells is_told v w
TellsBy ack.Nothing v w = Tells is_little v w
TellsBy ack.Full v w = Tells finds_none v w

abbrev pub TellsOver : ℕ → AckAnswer → CoreCut → CoreCut → Type 0
TellsOver n answer a b = OverOne a.sides n (TellsBy answer) b.sides × (b ≡ record a { sides = b.sides })

-- ---- a turn of an end of a circuit, over its own arrival queue

pub record TurnsOverArrivals (d : ℕ) (name : EndId) (answer : TurnAnswer) (a b : CoreCut) : Type 0 where
  pub number : ℕ
  pub turn : HasTurn queue_gives (record { dispatcher = d; end = name; from = number; answer = answer }) a a.arrivals b.core.dispatchers
      (record { ends = b.ends; sides = b.arrivals })
  pub own : arrivals_by turn.at.end.wired_end.wiring ≡ Some number
  pub rest : b ≡ record (with_waits a b.core.dispatchers) { ends = b.ends; arrivals = b.arrivals }
