-- When a queue is what is shown of the machine's: a fragment stands there for each label.
use Rattle.std.specs.Prelude.{◌≡◌, false}
use Rattle.fl_link.specs.Queue.{TheQueue}
use Rattle.fl_model.specs.Ends.{Queue}
use Rattle.fl_world_refines.specs.Fragments.{Streams, AreOf}

-- a slot is free again once its fragment is taken, so nothing is counted
pub record QueueShows (streams : Streams) (q : Queue) (t : TheQueue) : Type 0 where
  pub frags : AreOf streams q.labels t.items
  pub capacity : t.capacity ≡ q.capacity
  pub freed : t.acked ≡ false
  pub unacknowledged : t.unacknowledged ≡ 0
  pub sent : t.sent ≡ 0
