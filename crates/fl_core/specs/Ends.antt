-- What events at ends, and turns, come to at a core: the board's own relations, on the sides that the core's wirings name.
use Rattle.std.specs.Prelude.{ℕ, ◌≡◌, slice_get, slice_set, Option, Some, None, Result, Ok}
use Rattle.fl_waitset.specs.Waiting.{triggered}
use Rattle.fl_link.specs.Looks.{Look}
use Rattle.fl_link.specs.Queue.{TheQueue}
use Rattle.fl_endpoint.specs.declared.fault.EndFault.{EndFault}
use Rattle.fl_endpoint.specs.declared.answer.WriteAnswer.{WriteAnswer}
use Rattle.fl_endpoint.specs.declared.answer.WriteAnswer.TheVariants.{Written}
use Rattle.fl_endpoint.specs.Events.{Writes}
use Rattle.fl_core.specs.declared.board_fault.BoardFault.{BoardFault}
use Rattle.fl_core.specs.BoardView.{TheBoard}
use Rattle.fl_core.specs.BoardEvents.{ChangesEnd, ChangesLists, Registers}
use Rattle.fl_core.specs.BoardTurns.{lent, BoardAndSide}
use Rattle.fl_core.specs.View.{TheCore, with_board, arrivals_of, joined_to}

-- a core, and the side that is lent
pub record AtSide (T : Type 0) : Type 0 where
  pub core : TheCore
  pub side : T

abbrev pub at_side : {T : Type 0} → TheCore → T → AtSide T
at_side k p = record { core = k; side = p }

-- ---- where an event happens

-- of the core the board alone has changed, as its own event says
pub record OnBoard (k : TheCore) (Event : TheBoard → TheBoard → Type 0) (k2 : TheCore) : Type 0 where
  pub event : Event k.board k2.board
  pub rest : k2 ≡ with_board k k2.board

-- the board has changed, over the arrival queue of the end at place e
pub record OverArrivals (k : TheCore) (e : ℕ) (Event : TheBoard → TheQueue → TheBoard → TheQueue → Type 0) (k2 : TheCore) : Type 0 where
  pub place : ℕ
  pub place_is : arrivals_of k e ≡ Some place
  pub before : TheQueue
  pub before_is : slice_get k.arrivals place ≡ Some before
  pub after : TheQueue
  pub event : Event k.board before k2.board after
  pub rest : k2 ≡ record k { board = k2.board; arrivals = slice_set k.arrivals place after }

-- ---- a channel is triggered, or registered

abbrev pub Triggers : ℕ → TheBoard → TheBoard → Type 0
Triggers e b c = ChangesLists b e (λ s w v. v ≡ triggered w s.channel) c

-- where there is an end whose channel is to be triggered
abbrev pub TriggersIf : Option ℕ → TheBoard → TheBoard → Type 0
TriggersIf None b c = c ≡ b
TriggersIf (Some e) b c = Triggers e b c

-- the channel of the end at place e is registered, over the side from which it takes
abbrev pub RegistersAt : {T : Type 0} → (T → Look → T → Type 0) → ℕ → BoardAndSide T → Result (Unit {0}) BoardFault → BoardAndSide T → Type 0
RegistersAt takes e a answer b = ChangesLists a.board e (λ s w v. Registers takes s (lent w a.side) answer (lent v b.side)) b.board

-- ---- a fragment is written

-- who learns of a write by this answer: the end on the queue's other side
abbrev pub woken_by : TheCore → ℕ → Result WriteAnswer EndFault → Option ℕ
woken_by k e (Ok (Written number count)) = joined_to k e
woken_by k e answer = None

-- the end at place e writes, and then the end that is joined to it by a queue is told
pub record WritesAt {P : Type 0} (puts : P → Look → P → Type 0)
    (e : ℕ) (before : AtSide P) (answer : Result WriteAnswer EndFault) (after : AtSide P) : Type 0 where
  pub wrote : TheBoard
  pub writes : ChangesEnd before.core.board e (λ s t. Writes puts s before.side answer t after.side) wrote
  pub triggers : TriggersIf (woken_by before.core e answer) wrote after.core.board
  pub rest : after.core ≡ with_board before.core after.core.board
