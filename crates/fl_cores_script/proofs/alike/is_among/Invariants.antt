use Rattle.std.proofs.Common.{map, length}
use Rattle.fl_cores_script.specs.Alike.{IsAmong}
use Rattle.fl_cores_script.proofs.alike.is_among.Given as goal

abbrev pub invariant-loop-left : goal.invariant-loop-left
invariant-loop-left l = IsAmong (map (λ a. a.now) l.left) l.end → IsAmong (map (λ a. a.now) l.lines) l.end

abbrev pub decreases-loop-left : goal.decreases-loop-left
decreases-loop-left l = length l.left
