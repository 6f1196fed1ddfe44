use Rattle.std.proofs.Common.{◌≡◌, map, take}
use Rattle.fl_cores_script.specs.Replays.{handled_at}
use Rattle.fl_cores_script.proofs.alike.handled_at.Given as goal

abbrev pub invariant-loop-line : goal.invariant-loop-line
invariant-loop-line l = map (λ a. a.now) l.handled.items ≡ handled_at l.end (map (λ a. a.now) (take l.line-index l.lines))
