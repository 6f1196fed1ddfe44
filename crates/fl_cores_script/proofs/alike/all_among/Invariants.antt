use Rattle.std.proofs.Common.{map, take}
use Rattle.std.specs.List.{All}
use Rattle.fl_cores_script.specs.Alike.{IsAmong, OfEnd}
use Rattle.fl_cores_script.proofs.alike.all_among.Given as goal

abbrev pub invariant-loop-line : goal.invariant-loop-line
invariant-loop-line l = All (OfEnd (IsAmong (map (λ a. a.now) l.others))) (map (λ a. a.now) (take l.line-index l.lines))
