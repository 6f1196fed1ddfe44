-- What the machine makes of a cut by each event at an end, and by a dispatcher's turn, where the look is given: what stands first at the side, or that nothing
-- does. Each is made of the machine's own functions on one component.
use Rattle.std.specs.Prelude.{ℕ, ◌≡◌, ◌≢◌, ◌⊎◌, true, false, List, [], ◌∷◌, ◌++◌, drop, slice_get, slice_set, Option, Some, None, Result, Ok, Err}
use Rattle.fl_base.specs.declared.fragment.Frag.{Frag}
use Rattle.fl_base.specs.declared.identity.EndId.{EndId}
use Rattle.fl_base.specs.Control.{bare}
use Rattle.fl_base.specs.Ends.{peer}
use Rattle.fl_base.specs.Given.{given}
use Rattle.fl_lists.specs.declared.place.Place.{Place}
use Rattle.fl_lists.specs.declared.place.Place.TheVariants.{Polled, Pending}
use Rattle.fl_value_data.specs.Value.{call_of}
use Rattle.fl_endpoint.specs.declared.fault.EndFault.{EndFault}
use Rattle.fl_endpoint.specs.declared.answer.WriteAnswer.{WriteAnswer}
use Rattle.fl_endpoint.specs.declared.answer.WriteAnswer.TheVariants.{Written}
use Rattle.fl_core.specs.declared.turn_answer.TurnAnswer.{TurnAnswer}
use Rattle.fl_core.specs.declared.turn_answer.TurnAnswer.TheVariants as turn
use Rattle.fl_core.specs.declared.turn_answer.AckAnswer.{AckAnswer}
use Rattle.fl_core.specs.declared.turn_answer.AckAnswer.TheVariants as ack
use Rattle.fl_core.specs.declared.board_fault.BoardFault.{BoardFault}
use Rattle.fl_core.specs.declared.board_fault.BoardFault.TheVariants.{NotBound}
use Rattle.fl_core.specs.declared.wiring.Outlet.{Outlet}
use Rattle.fl_core.specs.declared.wiring.Outlet.TheVariants as outlet
use Rattle.fl_core.specs.View.{place_in}
use Rattle.fl_model.specs.Given.{changed_at}
use Rattle.fl_model.specs.Rings.{Label, next_of, there_is_room, no_room as none_free}
use Rattle.fl_model.specs.Ends.{joined_by, without_first, queue_room, taken_of, is_bound, holds_back, Seat, whole, a_part}
use Rattle.fl_model.specs.Waits.{Dispatcher, waits_in, deregisters, triggers, puts_off, Due, pending, polled, no_one, due, end_due}
use Rattle.fl_core_refines.specs.CutSides.{SideCut, PutOutcome, goes_on, is_full, is_spent, Places, TakeOutcome, nothing_stands}
use Rattle.fl_core_refines.specs.CutSides.{left_one, gave_one, gave_ack, SideGives}
use Rattle.fl_core_refines.specs.CutSides.{is_told, is_little, finds_none, Tells}
use Rattle.fl_core_refines.specs.CutEnds.{EndCut, Writes, Takes, Fails}
use Rattle.fl_core_refines.specs.Cut.{QueueCut, CoreCut}

-- ---- queues

-- a label's fragment has come to the back; the first has gone
abbrev pub joined_one : Label → Frag → QueueCut → QueueCut
joined_one label f x = record { queue = joined_by label x.queue; frags = x.frags ++ bare f ∷ [] }

abbrev pub without_one : QueueCut → QueueCut
without_one x = record { queue = without_first x.queue; frags = drop 1 x.frags }

abbrev pub QueuePlaces : Label → PutOutcome → QueueCut → QueueCut → Type 0
QueuePlaces label (goes_on f) x y = (queue_room x.queue ≡ there_is_room) × (y ≡ joined_one label f x)
QueuePlaces label is_full x y = (queue_room x.queue ≡ none_free) × (y ≡ x)
QueuePlaces label is_spent x y = ⊥

-- this fragment stands first
abbrev pub StandsFirst : Frag → QueueCut → Type 0
StandsFirst f x = (rest : List Frag) × (x.frags ≡ f ∷ rest)

abbrev pub QueueGives : Label → TakeOutcome → QueueCut → QueueCut → Type 0
QueueGives label nothing_stands x y = (x.queue.labels ≡ []) × (y ≡ x)
QueueGives label (left_one f) x y = StandsFirst f x × (y ≡ x)
QueueGives label (gave_one f) x y = StandsFirst f x × (y ≡ without_one x)
QueueGives label gave_ack x y = (x.queue.labels ≢ []) × (y ≡ without_one x)

-- ---- a turn

-- a dispatcher, the end whose turn it is, and where that takes from
pub record TurnPlace (P : Type 0) : Type 0 where
  pub waits : Dispatcher
  pub end : EndCut
  pub side : P

-- how a kind of side gives, and where an end's channel waits by it
pub record SideKind (P : Type 0) : Type 1 where
  pub gives : Label → TakeOutcome → P → P → Type 0
  pub waits_at : P → Place

abbrev pub ring_gives : SideKind SideCut
ring_gives = record { gives = SideGives; waits_at = λ x. Polled }

abbrev pub queue_gives : SideKind QueueCut
queue_gives = record { gives = QueueGives; waits_at = λ x. waits_in (Some x.queue) }

-- the label of the next of the other end's fragments
abbrev pub label_due : EndCut → Label
label_due x = next_of (peer x.wired_end.name) (taken_of x.came)

-- an end that takes fragments
abbrev pub IsOpen : EndCut → Type 0
IsOpen x = (is_bound x.end ≡ true) × (holds_back x.end ≡ false)

-- the first pending channel, c, was given something, and goes to the back of the list in which it waits then
abbrev pub Given : {P : Type 0} → SideKind P → TakeOutcome → ℕ → TurnPlace P → TurnPlace P → Type 0
Given g gave c a b = g.gives (label_due a.end) gave a.side b.side × (b.waits ≡ puts_off Pending c (g.waits_at b.side) a.waits)

-- by what is answered
abbrev pub Gives : {P : Type 0} → SideKind P → ℕ → TurnAnswer → TurnPlace P → TurnPlace P → Type 0
Gives g c (turn.Handle call) a b = IsOpen a.end × ((f : Frag) × Takes f (whole (call_of call)) a.end b.end × Given g (gave_one f) c a b)
Gives g c turn.Part a b = IsOpen a.end × ((f : Frag) × Takes f a_part a.end b.end × Given g (gave_one f) c a b)
Gives g c turn.Quiet a b = IsOpen a.end × (b.end ≡ a.end) × Given g gave_ack c a b
Gives g c turn.Nothing a b = IsOpen a.end × (b.end ≡ a.end) × Given g nothing_stands c a b
-- 16 replies wait
Gives g c turn.Full a b =
    (is_bound a.end.end ≡ true) × (holds_back a.end.end ≡ true) × (b.end ≡ a.end) × (b.side ≡ a.side)
    × (b.waits ≡ puts_off Pending c Pending a.waits)
-- the end has failed, and its channel is registered no more: the machine has no such case
Gives g c (turn.Refused fault) a b =
    IsOpen a.end × ((f : Frag) × Fails f fault a.end b.end × g.gives (label_due a.end) (left_one f) a.side b.side) × (b.waits ≡ deregisters c a.waits)
Gives g c turn.Ready a b = ⊥

-- the first polled channel, c, is examined
abbrev pub Examines : {P : Type 0} → SideKind P → ℕ → TurnAnswer → TurnPlace P → TurnPlace P → Type 0
Examines g c turn.Ready a b =
    (b.end ≡ a.end) × ((f : Frag) × g.gives (label_due a.end) (left_one f) a.side b.side) × (b.waits ≡ puts_off Polled c Pending a.waits)
Examines g c turn.Quiet a b =
    (b.end ≡ a.end) × (g.gives (label_due a.end) nothing_stands a.side b.side ⊎ g.gives (label_due a.end) gave_ack a.side b.side)
    × (b.waits ≡ puts_off Polled c Polled a.waits)
Examines g c answer a b = ⊥

-- by whose turn the machine says it is
abbrev pub Turns : {P : Type 0} → SideKind P → Due → TurnAnswer → TurnPlace P → TurnPlace P → Type 0
Turns g (pending c) answer a b = Gives g c answer a b
Turns g (polled c) answer a b = Examines g c answer a b
Turns g no_one answer a b = ⊥

-- ---- an end acknowledges

abbrev pub Acks : Result AckAnswer BoardFault → EndCut → SideCut → SideCut → Type 0
Acks (Ok ack.Done) x p q = (is_bound x.end ≡ true) × Tells is_told p q
Acks (Ok ack.Nothing) x p q = (is_bound x.end ≡ true) × Tells is_little p q
Acks (Ok ack.Full) x p q = (is_bound x.end ≡ true) × Tells finds_none p q
Acks (Err NotBound) x p q = (is_bound x.end ≡ false) × (q ≡ p)
Acks (Err fault) x p q = ⊥

-- ---- in a cut

-- the end of this name
pub record EndAt (a : CoreCut) (name : EndId) : Type 0 where
  pub place : ℕ
  pub place_is : place_in a.places name ≡ Some place
  pub end : EndCut
  pub end_is : slice_get a.ends place ≡ Some end
  pub name_is : end.wired_end.name ≡ name

-- that end alone has changed, as the event says
pub record ChangesEnd (a : CoreCut) (name : EndId) (Event : EndCut → EndCut → Type 0) (b : CoreCut) : Type 0 where
  pub at : EndAt a name
  pub after : EndCut
  pub event : Event at.end after
  pub rest : b ≡ record a { ends = slice_set a.ends at.place after }

-- the ends of a cut, and the sides or queues of one of its lists
pub record EndsOver (P : Type 0) : Type 0 where
  pub ends : List EndCut
  pub sides : List P

-- the end of a name and the side or queue of number n of a list have changed, as the event says
pub record ChangesBoth {P : Type 0} (a : CoreCut) (name : EndId) (xs : List P) (n : ℕ) (Event : EndCut → P → EndCut → P → Type 0)
    (now : EndsOver P) : Type 0 where
  pub at : EndAt a name
  pub side : P
  pub side_is : slice_get xs n ≡ Some side
  pub after : EndCut
  pub side_after : P
  pub event : Event at.end side after side_after
  pub ends_are : now.ends ≡ slice_set a.ends at.place after
  pub sides_are : now.sides ≡ slice_set xs n side_after

-- a fragment came for an end: its channel is triggered
abbrev pub triggers_seat : Option Seat → List Dispatcher → List Dispatcher
triggers_seat None waits = waits
triggers_seat (Some seat) waits = changed_at seat.dispatcher.place (triggers seat.channel) waits

abbrev pub triggers_end : Option ℕ → List EndCut → List Dispatcher → List Dispatcher
triggers_end None ends waits = waits
triggers_end (Some place) ends waits = given (slice_get ends place) waits λ x. triggers_seat x.end.seat waits

-- who learns of a write into a queue: the other end of the binding, where it is at this core
abbrev pub woken_by : EndId → Result WriteAnswer EndFault → CoreCut → Option ℕ
woken_by name (Ok (Written number count)) a = place_in a.places (peer name)
woken_by name answer a = None

abbrev pub with_waits : CoreCut → List Dispatcher → CoreCut
with_waits a waits = record a { core = record a.core { dispatchers = waits } }

-- a write, over a side of a ring, or a local queue
abbrev pub WritesOver : Outlet → EndId → Result WriteAnswer EndFault → CoreCut → CoreCut → Type 0
WritesOver (outlet.Side n) name answer a b =
    ChangesBoth a name a.sides n (λ x p y q. Writes Places answer x p y q) (record { ends = b.ends; sides = b.sides })
    × (b ≡ record a { ends = b.ends; sides = b.sides })
WritesOver (outlet.Queue n) name answer a b =
    ChangesBoth a name a.queues n (λ x p y q. Writes QueuePlaces answer x p y q) (record { ends = b.ends; sides = b.queues })
    × (b ≡ record (with_waits a (triggers_end (woken_by name answer a) b.ends a.core.dispatchers)) { ends = b.ends; queues = b.queues })

-- whose turn it is: a dispatcher's, and of its ends this one's, which takes from the side or queue of this number; and what is answered
pub record TheTurn : Type 0 where
  pub dispatcher : ℕ
  pub end : EndId
  pub from : ℕ
  pub answer : TurnAnswer

-- that turn is had, over the sides or queues of a list
pub record HasTurn {P : Type 0} (g : SideKind P) (had : TheTurn) (a : CoreCut) (xs : List P) (waits_now : List Dispatcher) (now : EndsOver P) : Type 0 where
  pub waits : Dispatcher
  pub waits_is : slice_get a.core.dispatchers had.dispatcher ≡ Some waits
  pub due_is : end_due waits (due waits) ≡ Some had.end
  pub at : EndAt a had.end
  pub side : P
  pub side_is : slice_get xs had.from ≡ Some side
  pub after : TurnPlace P
  pub turns : Turns g (due waits) had.answer (record { waits = waits; end = at.end; side = side }) after
  pub waits_are : waits_now ≡ slice_set a.core.dispatchers had.dispatcher after.waits
  pub ends_are : now.ends ≡ slice_set a.ends at.place after.end
  pub sides_are : now.sides ≡ slice_set xs had.from after.side

-- over a side of a ring, or a local queue
abbrev pub TurnsOverSide : ℕ → EndId → ℕ → TurnAnswer → CoreCut → CoreCut → Type 0
TurnsOverSide d name n answer a b =
    HasTurn ring_gives (record { dispatcher = d; end = name; from = n; answer = answer }) a a.sides b.core.dispatchers
    (record { ends = b.ends; sides = b.sides })
    × (b ≡ record (with_waits a b.core.dispatchers) { ends = b.ends; sides = b.sides })

abbrev pub TurnsOverQueue : ℕ → EndId → ℕ → TurnAnswer → CoreCut → CoreCut → Type 0
TurnsOverQueue d name n answer a b =
    HasTurn queue_gives (record { dispatcher = d; end = name; from = n; answer = answer }) a a.queues b.core.dispatchers
    (record { ends = b.ends; sides = b.queues })
    × (b ≡ record (with_waits a b.core.dispatchers) { ends = b.ends; queues = b.queues })

-- an end acknowledges over side n
pub record AcksOver (n : ℕ) (name : EndId) (answer : Result AckAnswer BoardFault) (a b : CoreCut) : Type 0 where
  pub at : EndAt a name
  pub side : SideCut
  pub side_is : slice_get a.sides n ≡ Some side
  pub after : SideCut
  pub event : Acks answer at.end side after
  pub rest : b ≡ record a { sides = slice_set a.sides n after }
