use Rattle.std.proofs.Common.{◌≡◌, ◌≤◌, ◌-◌, length, take, drop}
use Rattle.fl_machine.specs.Taking.{words_bytes, IsFed}
use Rattle.fl_machine.specs.Straight.{straight_intake}
use Rattle.fl_machine.proofs.straight.take_straight.Given as goal

abbrev pub invariant-loop-place : goal.invariant-loop-place
invariant-loop-place l =
    (l.used ≤ 56) × (l.count ≤ 8) × (length l.places ≡ 8)
    × IsFed l.ops (take l.count l.places) (straight_intake l.place l.count l.used) (words_bytes l.words) (drop l.used (take 56 l.buffer))

abbrev pub decreases-loop-place : goal.decreases-loop-place
decreases-loop-place l = length l.ops - l.place
