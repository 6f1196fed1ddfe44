use Rattle.std.proofs.Common.{◌≡◌, ◌++◌, map, drop}
use Rattle.fl_cores_fork.specs.CoreThreads.{outcome_of}
use Rattle.fl_cores_fork.specs.Tells.{turns_in}
use Rattle.fl_cores_fork.proofs.telling.turns_of.Given as goal

abbrev pub invariant-loop-one : goal.invariant-loop-one
invariant-loop-one l = l.turns.items ++ map turns_in (map outcome_of (drop l.one-index l.done)) ≡ map turns_in (map outcome_of l.done)
