-- A binding within a core is made, at the parts of a world that it touches: a core, and the two queues.
use Rattle.std.specs.Prelude.{ℕ, ◌≡◌, ◌<◌, List, length, slice_get, slice_set, Some, None, Result}
use Rattle.fl_link.specs.Queue.{TheQueue, QueueTakes}
use Rattle.fl_core.specs.declared.board_fault.BoardFault.{BoardFault}
use Rattle.fl_core.specs.BoardTurns.{over}
use Rattle.fl_core.specs.declared.joining.LocalBinding.{LocalBinding}
use Rattle.fl_core.specs.declared.joining.EndPlaces.{EndPlaces}
use Rattle.fl_core.specs.View.{TheCore, arrivals_of}
use Rattle.fl_core.specs.Ends.{OnBoard, RegistersAt}
use Rattle.fl_core.specs.Making.{JoinsBoth}
use Rattle.fl_world_events.specs.Parts.{InCore}
use Rattle.fl_world_events.specs.Requests.{IsNewIn}

-- ---- a core's ends

-- the end at a place takes from a queue that is lent
pub record IsOnQueue (k : TheCore) (e : ℕ) : Type 0 where
  pub there : e < length k.board.seats
  pub lent : arrivals_of k e ≡ None

-- its channel is registered, or that is refused, over a queue that stays as it is
abbrev pub Lists : ℕ → TheQueue → TheCore → TheCore → Type 0
Lists e q k k2 = (answer : Result (Unit {0}) BoardFault) × OnBoard k (λ b c. RegistersAt QueueTakes e (over b q) answer (over c q)) k2

-- the same of both ends, the client's first: each takes from the queue to which the other puts
pub record ListsBoth (ends : EndPlaces) (forth back : TheQueue) (k k2 : TheCore) : Type 0 where
  pub between : TheCore
  pub client : Lists ends.client back k between
  pub server : Lists ends.server forth between k2

-- both ends are added, and then registered
pub record JoinsIn (j : LocalBinding) (forth back : TheQueue) (k k2 : TheCore) : Type 0 where
  pub ends : EndPlaces
  pub with_both : TheCore
  pub added : JoinsBoth j k ends with_both
  pub listed : ListsBoth ends forth back with_both k2

-- both ends may be added
pub record MayJoin (j : LocalBinding) (k : TheCore) : Type 0 where
  pub client : j.client.dispatcher < length k.board.dispatchers
  pub server : j.server.dispatcher < length k.board.dispatchers
  pub few : j.binding < 1024
  pub new : IsNewIn j.binding k

-- ---- among all cores

abbrev pub MayJoinAt : ℕ → LocalBinding → List TheCore → Type 0
MayJoinAt n j cores = (k : TheCore) × (slice_get cores n ≡ Some k) × MayJoin j k

pub record JoinsAt (n : ℕ) (j : LocalBinding) (forth back : TheQueue) (cores cores2 : List TheCore) : Type 0 where
  pub core : TheCore
  pub core_is : slice_get cores n ≡ Some core
  pub after : TheCore
  pub joins : InCore (JoinsIn j forth back) core after
  pub rest : cores2 ≡ slice_set cores n after
