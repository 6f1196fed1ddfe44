use Rattle.fl_cores_parts.specs.Dealing.{UsesQueue, Below, Owns}
use Rattle.fl_cores_parts.proofs.sharing.own_queues.Given as goal

-- the queues that the ends so far use are the core's
abbrev pub invariant-loop-e : goal.invariant-loop-e
invariant-loop-e l = Owns (Below (UsesQueue l.core) l.e) l.k l.fn.owners.items l.owners.items
