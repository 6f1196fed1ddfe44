use Rattle.std.proofs.Common.{map, take}
use Rattle.std.specs.List.{All}
use Rattle.fl_cores_script.specs.Alike.{AlikeAt, OfEnd}
use Rattle.fl_cores_script.proofs.alike.all_alike.Given as goal

abbrev pub invariant-loop-line : goal.invariant-loop-line
invariant-loop-line l = All (OfEnd (AlikeAt (map (λ a. a.now) l.lines) (map (λ a. a.now) l.others))) (map (λ a. a.now) (take l.line-index l.firsts))
