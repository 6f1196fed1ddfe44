use Rattle.std.proofs.Common.{◌-◌, ◌≤◌, take, drop}
use Rattle.fl_machine.specs.Taking.{AreWithin}
use Rattle.fl_machine.proofs.intake.bounds_of.Given as goal

abbrev pub invariant-loop-index : goal.invariant-loop-index
invariant-loop-index l = (l.index ≤ l.many) × AreWithin l.low l.high (take l.index (drop l.from l.buffer))

abbrev pub decreases-loop-index : goal.decreases-loop-index
decreases-loop-index l = l.many - l.index
