-- Registering over a queue leaves it is.
use Rattle.std.proofs.Common.{◌≡◌, ℕ, inl, inr, Result, Ok, Err}
use Rattle.fl_lists.specs.declared.place.Place.{Place}
use Rattle.fl_lists.specs.declared.place.Place.TheVariants as place
use Rattle.fl_lists.specs.ThreeLists.{ThreeLists}
use Rattle.fl_link.specs.Queue.{TheQueue, QueueTakes}
use Rattle.fl_core.specs.declared.kind.ChannelKind.{ChannelKind}
use Rattle.fl_core.specs.declared.kind.ChannelKind.TheVariants as kind
use Rattle.fl_core.specs.declared.board_fault.BoardFault.{BoardFault}
use Rattle.fl_core.specs.declared.board_fault.BoardFault.TheVariants.{NotBound, Registered, NotRegistered, TooManyEnds, Failed, Memory}
use Rattle.fl_core.specs.BoardView.{TheEndAtChannel, TheBoard}
use Rattle.fl_core.specs.BoardTurns.{WaitsIn, lent, over}
use Rattle.fl_core.specs.BoardEvents.{Registers}
use Rattle.fl_core.specs.Ends.{RegistersAt}

waits_leave : (k : ChannelKind) (p q : TheQueue) (to : Place) → WaitsIn QueueTakes k p to q → q ≡ p
waits_leave kind.Ring p q place.Polled h = h
waits_leave kind.Ring p q place.Pending h = absurd h
waits_leave kind.Ring p q place.Idle h = absurd h
waits_leave kind.Queue p q place.Pending (inl (f, saw)) = saw.1
waits_leave kind.Queue p q place.Pending (inr saw) = saw.1
waits_leave kind.Queue p q place.Idle h = h.1
waits_leave kind.Queue p q place.Polled h = absurd h

registers_leave : (s : TheEndAtChannel) (w v : ThreeLists) (p q : TheQueue) (r : Result (Unit {0}) BoardFault) → Registers QueueTakes s (lent w p) r (lent v q) → q ≡ p
registers_leave s w v p q (Ok done) (ready, (free, (to, waits, lists))) = waits_leave s.kind p q to waits
registers_leave s w v p q (Err Registered) (ready, (is, side, lists)) = side
registers_leave s w v p q (Err NotBound) (unbound, side, lists) = side
registers_leave s w v p q (Err Failed) (failed, side, lists) = side
registers_leave s w v p q (Err NotRegistered) h = absurd h
registers_leave s w v p q (Err TooManyEnds) h = absurd h
registers_leave s w v p q (Err Memory) h = absurd h

pub registering_leaves : (e : ℕ) (r : Result (Unit {0}) BoardFault) (b c : TheBoard) (p q : TheQueue) → RegistersAt QueueTakes e (over b p) r (over c q) → q ≡ p
registering_leaves e r b c p q h = registers_leave h.seat h.dispatcher.lists h.lists p q r h.event
