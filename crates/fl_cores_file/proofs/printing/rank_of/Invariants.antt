use Rattle.std.proofs.Common.{◌≡◌, ◌≤◌, map, take}
use Rattle.std.specs.List.{count_by}
use Rattle.fl_cores_file.specs.Printed.{comes_before}
use Rattle.fl_cores_file.proofs.printing.rank_of.Given as goal

abbrev pub invariant-loop-other : goal.invariant-loop-other
invariant-loop-other l =
    (l.rank ≡ count_by (λ other. comes_before other l.name) (map (λ n. n.now) (take l.other-index l.names))) × (l.rank ≤ l.other-index)
