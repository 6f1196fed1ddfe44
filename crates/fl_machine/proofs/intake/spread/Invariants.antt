use Rattle.std.proofs.Common.{◌≡◌, ◌≤◌, ◌-◌, ◌*◌, length, take}
use Rattle.fl_machine.specs.Taking.{words_bytes}
use Rattle.fl_machine.proofs.intake.spread.Given as goal

abbrev pub invariant-loop-index : goal.invariant-loop-index
invariant-loop-index l = (length l.buffer ≡ 64) × (take (8 * l.index) l.buffer ≡ words_bytes (take l.index l.words)) × (l.index ≤ 7)

abbrev pub decreases-loop-index : goal.decreases-loop-index
decreases-loop-index l = 7 - l.index
