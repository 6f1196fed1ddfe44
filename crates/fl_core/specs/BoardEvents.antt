-- What the other events of a board come to: by cases on the answer, exactly. The side that is lent goes from p to q.
use Rattle.std.specs.Prelude.{◌≡◌, ◌<◌, ℕ, true, false, length, slice_get, Some, IsSome, Result, Ok, Err}
use Rattle.fl_lists.specs.declared.place.Place.{Place}
use Rattle.fl_lists.specs.ThreeLists.{ThreeLists, unlinked, pushed}
use Rattle.fl_waitset.specs.Waiting.{is_registered}
use Rattle.fl_link.specs.Looks.{Look, no_room, told, kept}
use Rattle.fl_endpoint.specs.View.{TheEnd}
use Rattle.fl_endpoint.specs.Events.{IsUnbound, HasFailed, IsReady}
use Rattle.fl_core.specs.declared.kind.ChannelKind.{ChannelKind}
use Rattle.fl_core.specs.declared.kind.ChannelKind.TheVariants.{Queue, Ring}
use Rattle.fl_core.specs.declared.turn_answer.AckAnswer.{AckAnswer}
use Rattle.fl_core.specs.declared.turn_answer.AckAnswer.TheVariants.{Done, Nothing, Full}
use Rattle.fl_core.specs.declared.board_fault.BoardFault.{BoardFault}
use Rattle.fl_core.specs.declared.board_fault.BoardFault.TheVariants.{NotBound, Registered, NotRegistered, TooManyEnds, Failed, Memory}
use Rattle.fl_core.specs.BoardView.{TheDispatcher, TheEndAtChannel, TheBoard, with_lists, with_end, with_new_end}
use Rattle.fl_core.specs.BoardSound.{IsBoard}
use Rattle.fl_core.specs.BoardTurns.{WaitsIn, ListsAndSide}

-- ---- where an event happens

-- of the board, the end at place e alone has changed, as the event says
pub record ChangesEnd (b : TheBoard) (e : ℕ) (Event : TheEnd → TheEnd → Type 0) (b2 : TheBoard) : Type 0 where
  pub seat : TheEndAtChannel
  pub seat_is : slice_get b.seats e ≡ Some seat
  pub end : TheEnd
  pub event : Event seat.end end
  pub board : b2 ≡ with_end b e seat end

-- of the board, the lists of the dispatcher at which the end at place e sits alone have changed, as the event says
pub record ChangesLists (b : TheBoard) (e : ℕ) (Event : TheEndAtChannel → ThreeLists → ThreeLists → Type 0) (b2 : TheBoard) : Type 0 where
  pub seat : TheEndAtChannel
  pub seat_is : slice_get b.seats e ≡ Some seat
  pub dispatcher : TheDispatcher
  pub dispatcher_is : slice_get b.dispatchers seat.dispatcher ≡ Some dispatcher
  pub lists : ThreeLists
  pub event : Event seat dispatcher.lists lists
  pub board : b2 ≡ with_lists b seat.dispatcher dispatcher lists

-- this is so of what sits at place e
abbrev pub Holds : TheBoard → ℕ → (TheEndAtChannel → Type 0) → Type 0
Holds b e Fact = (s : TheEndAtChannel) × (slice_get b.seats e ≡ Some s) × Fact s

-- ---- an end is added

abbrev pub Adds : TheBoard → ℕ → TheEnd → ChannelKind → Result ℕ BoardFault → TheBoard → Type 0
Adds b n s kind (Ok e) b2 =
    (e ≡ length b.seats) × ((d : TheDispatcher) × (slice_get b.dispatchers n ≡ Some d) × (length d.ends < 1024) × (b2 ≡ with_new_end b n d s kind))
Adds b n s kind (Err TooManyEnds) b2 = ((d : TheDispatcher) × (slice_get b.dispatchers n ≡ Some d) × (length d.ends ≡ 1024)) × (b2 ≡ b)
Adds b n s kind (Err Memory) b2 = ((d : TheDispatcher) × (slice_get b.dispatchers n ≡ Some d) × (length d.ends < 1024)) × (b2 ≡ b)
Adds b n s kind (Err fault) b2 = ⊥

-- a board to which an end was added, with nothing else since
pub record IsGrown (b : TheBoard) : Type 0 where
  pub before : TheBoard
  pub sound : IsBoard before
  pub place : ℕ
  pub dispatcher : TheDispatcher
  pub dispatcher_is : slice_get before.dispatchers place ≡ Some dispatcher
  pub end : TheEnd
  pub kind : ChannelKind
  pub board : b ≡ with_new_end before place dispatcher end kind

-- ---- a channel is registered, deregistered, acknowledged

-- a channel c of this kind, unless it is registered, goes to the back of the list in which it waits
abbrev pub Joins : {T : Type 0} → (T → Look → T → Type 0) → ChannelKind → ℕ → ListsAndSide T → Result (Unit {0}) BoardFault → ListsAndSide T → Type 0
Joins takes kind c a (Ok done) b =
    (is_registered a.lists c ≡ false) × ((to : Place) × WaitsIn takes kind a.side to b.side × (b.lists ≡ pushed a.lists c to))
Joins takes kind c a (Err Registered) b = (is_registered a.lists c ≡ true) × (b.side ≡ a.side) × (b.lists ≡ a.lists)
Joins takes kind c a (Err fault) b = ⊥

abbrev pub Registers : {T : Type 0} → (T → Look → T → Type 0) → TheEndAtChannel → ListsAndSide T → Result (Unit {0}) BoardFault → ListsAndSide T → Type 0
Registers takes s a (Ok done) b = IsReady s.end × Joins takes s.kind s.channel a (Ok done) b
Registers takes s a (Err Registered) b = IsReady s.end × Joins takes s.kind s.channel a (Err Registered) b
Registers takes s a (Err NotBound) b = IsUnbound s.end × (b.side ≡ a.side) × (b.lists ≡ a.lists)
Registers takes s a (Err Failed) b = HasFailed s.end × (b.side ≡ a.side) × (b.lists ≡ a.lists)
Registers takes s a (Err fault) b = ⊥

abbrev pub Deregisters : TheEndAtChannel → ThreeLists → Result (Unit {0}) BoardFault → ThreeLists → Type 0
Deregisters s w (Ok done) v = IsSome s.end.circuit × (is_registered w s.channel ≡ true) × (v ≡ unlinked w s.channel)
Deregisters s w (Err NotBound) v = IsUnbound s.end × (v ≡ w)
Deregisters s w (Err NotRegistered) v = IsSome s.end.circuit × (is_registered w s.channel ≡ false) × (v ≡ w)
Deregisters s w (Err fault) v = ⊥

-- a ring's side tells what was taken; a queue has nothing to tell, and isn't asked
abbrev pub Acks : {T : Type 0} → (T → Look → T → Type 0) → ChannelKind → TheEnd → T → Result AckAnswer BoardFault → T → Type 0
Acks takes Ring s p (Ok Done) q = IsSome s.circuit × takes p told q
Acks takes Ring s p (Ok Nothing) q = IsSome s.circuit × takes p kept q
Acks takes Ring s p (Ok Full) q = IsSome s.circuit × takes p no_room q
Acks takes Queue s p (Ok Nothing) q = IsSome s.circuit × (q ≡ p)
Acks takes kind s p (Err NotBound) q = IsUnbound s × (q ≡ p)
Acks takes kind s p answer q = ⊥
