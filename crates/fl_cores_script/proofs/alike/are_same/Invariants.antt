use Rattle.std.proofs.Common.{◌≡◌, map, length}
use Rattle.fl_cores_script.proofs.alike.are_same.Given as goal

abbrev pub invariant-loop-left : goal.invariant-loop-left
invariant-loop-left l = map (λ a. a.now) l.left ≡ map (λ a. a.now) l.right → map (λ a. a.now) l.lines ≡ map (λ a. a.now) l.others

abbrev pub decreases-loop-left : goal.decreases-loop-left
decreases-loop-left l = length l.left
