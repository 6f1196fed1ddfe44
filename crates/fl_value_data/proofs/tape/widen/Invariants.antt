use Rattle.std.proofs.Common.{◌≡◌, ◌≤◌, ◌-◌, length, take}
use Rattle.fl_value_data.proofs.tape.widen.Given as goal

abbrev pub invariant-loop-index : goal.invariant-loop-index
invariant-loop-index l = (l.index ≤ 64) × (take l.index l.numbers ≡ take l.index l.fn.bytes) × (length l.numbers ≡ 64)

abbrev pub decreases-loop-index : goal.decreases-loop-index
decreases-loop-index l = 64 - l.index
