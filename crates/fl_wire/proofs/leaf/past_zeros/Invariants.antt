use Rattle.std.proofs.Common.{◌≡◌, ℕ, ◌-◌, ◌<◌, ◌≤◌}
use Rattle.fl_wire.specs.Standing.{byte_in}
use Rattle.fl_wire.proofs.leaf.past_zeros.Given as goal

-- the bytes so far are 0
abbrev pub invariant-loop-p : goal.invariant-loop-p
invariant-loop-p l = (l.at ≤ l.p) × ((q : ℕ) → l.at ≤ q → q < l.p → byte_in l.frags q ≡ 0)

abbrev pub decreases-loop-p : goal.decreases-loop-p
decreases-loop-p l = l.end - l.p
