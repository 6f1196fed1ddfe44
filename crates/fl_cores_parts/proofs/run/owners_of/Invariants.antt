use Rattle.std.proofs.Common.{◌≡◌, ◌++◌, drop}
use Rattle.fl_cores_parts.proofs.run.owners_of.Given as goal

abbrev pub invariant-loop-owner : goal.invariant-loop-owner
invariant-loop-owner l = l.copies.items ++ drop l.owner-index l.owners ≡ l.owners
