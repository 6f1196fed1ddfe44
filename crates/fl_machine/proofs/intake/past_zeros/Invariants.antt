use Rattle.std.proofs.Common.{◌-◌, ◌≤◌}
use Rattle.fl_machine.specs.Taking.{AreZeros}
use Rattle.fl_machine.proofs.intake.past_zeros.Given as goal

abbrev pub invariant-loop-at : goal.invariant-loop-at
invariant-loop-at l = (l.used ≤ l.at) × (l.at ≤ 63) × AreZeros l.buffer l.used l.at

abbrev pub decreases-loop-at : goal.decreases-loop-at
decreases-loop-at l = 56 - l.at
