use Rattle.std.proofs.Common.{◌≡◌, ◌≤◌, ◌==◌, take}
use Rattle.std.specs.List.{count_by}
use Rattle.fl_cores_file.proofs.setup.count_core.Given as goal

abbrev pub invariant-loop-one : goal.invariant-loop-one
invariant-loop-one l = (l.count ≡ count_by (λ one. one == l.core) (take l.one-index l.cores)) × (l.count ≤ l.one-index)
