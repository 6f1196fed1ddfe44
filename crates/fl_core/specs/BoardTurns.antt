-- One turn of a dispatcher: what it comes to, by cases on the answer, exactly. The side of the end that is due is seen by its
-- own relation alone.
use Rattle.std.specs.Prelude.{◌≡◌, ◌⊎◌, ℕ, slice_get, Some, Result, Ok, Err}
use Rattle.std.specs.declared.alloc.AllocError.{AllocError}
use Rattle.fl_base.specs.declared.fragment.Frag.{Frag}
use Rattle.fl_lists.specs.declared.place.Place.{Place}
use Rattle.fl_lists.specs.declared.place.Place.TheVariants as place
use Rattle.fl_lists.specs.ThreeLists.{ThreeLists, unlinked, pushed, popped}
use Rattle.fl_waitset.specs.declared.waitset.Pick.{Pick}
use Rattle.fl_waitset.specs.declared.waitset.Pick.TheVariants as pick
use Rattle.fl_waitset.specs.Waiting.{next_pick}
use Rattle.fl_link.specs.Looks.{Look, saw, saw_ack, found_ack, missed}
use Rattle.fl_endpoint.specs.declared.fault.EndFault.TheVariants.{Wire, Memory}
use Rattle.fl_endpoint.specs.declared.answer.ReceiveAnswer.{ReceiveAnswer}
use Rattle.fl_endpoint.specs.declared.answer.ReceiveAnswer.TheVariants as receive
use Rattle.fl_endpoint.specs.View.{TheEnd}
use Rattle.fl_endpoint.specs.Events.{Receives}
use Rattle.fl_core.specs.declared.kind.ChannelKind.{ChannelKind}
use Rattle.fl_core.specs.declared.kind.ChannelKind.TheVariants.{Queue, Ring}
use Rattle.fl_core.specs.declared.turn_answer.TurnAnswer.{TurnAnswer}
use Rattle.fl_core.specs.declared.turn_answer.TurnAnswer.TheVariants.{Handle, Part, Ready, Quiet, Full, Nothing, Refused}
use Rattle.fl_core.specs.BoardView.{TheDispatcher, TheEndAtChannel, TheBoard, channel_of, with_lists, with_end}

-- where a channel of this kind waits, by a look at its side: a ring is polled; a queue's channel is pending where a fragment
-- stands, and else idle
abbrev pub WaitsIn : {T : Type 0} → (T → Look → T → Type 0) → ChannelKind → T → Place → T → Type 0
WaitsIn takes Ring p place.Polled q = q ≡ p
WaitsIn takes Queue p place.Pending q = ((f : Frag) × takes p (saw f) q) ⊎ takes p saw_ack q
WaitsIn takes Queue p place.Idle q = takes p missed q
WaitsIn takes kind p place q = ⊥

-- the first channel c of a list goes to the back of one
abbrev pub put_off : ThreeLists → Place → ℕ → Place → ThreeLists
put_off w from c to = pushed (popped w from) c to

-- a dispatcher's lists, and the side that is lent
pub record ListsAndSide (T : Type 0) : Type 0 where
  pub lists : ThreeLists
  pub side : T

abbrev pub lent : {T : Type 0} → ThreeLists → T → ListsAndSide T
lent w p = record { lists = w; side = p }

-- these, with the end that is due
pub record EndMoment (T : Type 0) : Type 0 where
  pub lists : ThreeLists
  pub end : TheEnd
  pub side : T

abbrev pub moment : {T : Type 0} → ThreeLists → TheEnd → T → EndMoment T
moment w s p = record { lists = w; end = s; side = p }

-- a board, and the side that is lent
pub record BoardAndSide (T : Type 0) : Type 0 where
  pub board : TheBoard
  pub side : T

abbrev pub over : {T : Type 0} → TheBoard → T → BoardAndSide T
over b p = record { board = b; side = p }

-- ---- the first pending channel is given a fragment

-- the channel goes to the back of the list in which it waits for the next fragment
abbrev pub GoesOn : {T : Type 0} → (T → Look → T → Type 0) → ChannelKind → ℕ → ListsAndSide T → ListsAndSide T → Type 0
GoesOn takes kind c a b = (to : Place) × WaitsIn takes kind a.side to b.side × (b.lists ≡ put_off a.lists place.Pending c to)

-- its end took what stood first, or found nothing, with this answer, and then the channel goes on
abbrev pub TakesOne : {T : Type 0} → (T → Look → T → Type 0) → ChannelKind → ℕ → EndMoment T → ReceiveAnswer → EndMoment T → Type 0
TakesOne {T} takes kind c a answer b =
    (m : T) × Receives takes a.end a.side (Ok answer) b.end m × GoesOn takes kind c (lent a.lists m) (lent b.lists b.side)

abbrev pub Gives : {T : Type 0} → (T → Look → T → Type 0) → ChannelKind → ℕ → EndMoment T → Result TurnAnswer AllocError → EndMoment T → Type 0
Gives takes kind c a (Ok (Handle call)) b = TakesOne takes kind c a (receive.Handle call) b
Gives takes kind c a (Ok Part) b = TakesOne takes kind c a receive.Part b
Gives takes kind c a (Ok Quiet) b = TakesOne takes kind c a receive.Quiet b
-- 16 replies wait at the end: no fragment is looked at
Gives takes kind c a (Ok Full) b =
    Receives takes a.end a.side (Ok receive.HeldBack) b.end b.side × (b.lists ≡ put_off a.lists place.Pending c place.Pending)
Gives takes kind c a (Ok Nothing) b = TakesOne takes kind c a receive.Empty b
-- the end has failed, and its channel is deregistered
Gives takes kind c a (Ok (Refused fault)) b = Receives takes a.end a.side (Err (Wire fault)) b.end b.side × (b.lists ≡ unlinked a.lists c)
Gives takes kind c a (Ok Ready) b = ⊥
Gives takes kind c a (Err error) b = Receives takes a.end a.side (Err Memory) b.end b.side × (b.lists ≡ a.lists)

-- ---- the first polled channel is examined

-- nothing stands at the side, or a fragment that only acknowledges, which is taken
abbrev pub IsQuiet : {T : Type 0} → (T → Look → T → Type 0) → T → T → Type 0
IsQuiet {T} takes p q = takes p missed q ⊎ ((m : T) × takes p saw_ack m × takes m found_ack q)

abbrev pub Examines : {T : Type 0} → (T → Look → T → Type 0) → ℕ → ListsAndSide T → Result TurnAnswer AllocError → ListsAndSide T → Type 0
-- a fragment of a call stands there
Examines takes c a (Ok Ready) b = ((f : Frag) × takes a.side (saw f) b.side) × (b.lists ≡ put_off a.lists place.Polled c place.Pending)
Examines takes c a (Ok Quiet) b = IsQuiet takes a.side b.side × (b.lists ≡ put_off a.lists place.Polled c place.Polled)
Examines takes c a answer b = ⊥

-- ---- the turn

-- by what is picked
abbrev pub LooksAt : {T : Type 0} → (T → Look → T → Type 0) → Pick → ChannelKind → EndMoment T → Result TurnAnswer AllocError → EndMoment T → Type 0
LooksAt takes (pick.Pending c) kind a answer b = Gives takes kind c.0 a answer b
LooksAt takes (pick.Polled c) kind a answer b =
    Examines takes c.0 (lent a.lists a.side) answer (lent b.lists b.side) × (b.end ≡ a.end)

-- dispatcher n has a turn, over the side of the end at place e, which is due: the waitset's pick is the end's channel, and of the
-- board this end and the dispatcher's lists alone change
pub record Turns {T : Type 0} (takes : T → Look → T → Type 0)
    (n e : ℕ) (before : BoardAndSide T) (answer : Result TurnAnswer AllocError) (after : BoardAndSide T) : Type 0 where
  pub dispatcher : TheDispatcher
  pub dispatcher_is : slice_get before.board.dispatchers n ≡ Some dispatcher
  pub picked : Pick
  pub picked_is : next_pick dispatcher.lists ≡ Ok picked
  pub end_is : slice_get dispatcher.ends (channel_of picked) ≡ Some e
  pub seat : TheEndAtChannel
  pub seat_is : slice_get before.board.seats e ≡ Some seat
  -- afterwards
  pub lists : ThreeLists
  pub end : TheEnd
  pub looks : LooksAt takes picked seat.kind (moment dispatcher.lists seat.end before.side) answer (moment lists end after.side)
  pub board : after.board ≡ with_end (with_lists before.board n dispatcher lists) e seat end
