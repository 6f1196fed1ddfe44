use Rattle.std.proofs.Common.{◌≡◌, ◌++◌, length, take}
use Rattle.std.specs.Vec.Iter.{into_iter_items}
use Rattle.fl_cores_parts.specs.Dealing.{HandsOutQueues}
use Rattle.fl_cores_parts.proofs.sharing.hand_out_queues.Given as goal

-- the queues so far are handed out
abbrev pub invariant-loop-queue : goal.invariant-loop-queue
invariant-loop-queue l = record {
  place : l.place ≡ length l.yielded;
  left : l.yielded ++ into_iter_items l.queue-iterator ≡ l.fn.queues.items;
  hands_out : HandsOutQueues l.yielded (take l.place l.owners) l.fn.cores l.handed_out;
}
