use Rattle.std.proofs.Common.{◌≡◌, ℕ, ◌<◌, ◌≤◌}
use Rattle.fl_wire.specs.Standing.{byte_in}
use Rattle.fl_wire.proofs.leaf.read_zeros.Given as goal

-- the bytes so far are 0
abbrev pub invariant-loop-p : goal.invariant-loop-p
invariant-loop-p l = (p : ℕ) → l.at ≤ p → p < l.p → byte_in l.frags p ≡ 0
