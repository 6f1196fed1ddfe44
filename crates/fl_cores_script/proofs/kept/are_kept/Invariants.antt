use Rattle.std.proofs.Common.{map, take}
use Rattle.std.specs.List.{All}
use Rattle.fl_cores_script.specs.Kept.{IsKept}
use Rattle.fl_cores_script.proofs.kept.are_kept.Given as goal

abbrev pub invariant-loop-line : goal.invariant-loop-line
invariant-loop-line l = All (λ a. IsKept (map (λ o. o.now) l.own) a.now) (take l.line-index l.lines)
