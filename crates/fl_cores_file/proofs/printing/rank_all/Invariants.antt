use Rattle.std.proofs.Common.{◌≡◌, map, take}
use Rattle.fl_cores_file.specs.Printed.{rank_of}
use Rattle.fl_cores_file.proofs.printing.rank_all.Given as goal

abbrev pub invariant-loop-name : goal.invariant-loop-name
invariant-loop-name l = l.ranks.items ≡ map (rank_of (map (λ n. n.now) l.names)) (map (λ n. n.now) (take l.name-index l.names))
