use Rattle.fl_cores_parts.specs.Dealing.{TakesSide, Below, Owns}
use Rattle.fl_cores_parts.proofs.sharing.own_end_sides.Given as goal

-- the sides from which the ends so far take are the core's
abbrev pub invariant-loop-e : goal.invariant-loop-e
invariant-loop-e l = Owns (Below (TakesSide l.core) l.e) l.k l.fn.owners.items l.owners.items
