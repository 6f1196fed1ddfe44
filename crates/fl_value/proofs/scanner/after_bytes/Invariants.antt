use Rattle.std.proofs.Common.{ℕ, List, length}
use Rattle.fl_value.specs.CallText.{TextBytes}
use Rattle.fl_value.proofs.scanner.after_bytes.Given as goal

abbrev pub invariant-loop-byte : goal.invariant-loop-byte
invariant-loop-byte l = (s : List ℕ) × TextBytes s l.bytes l.rest

abbrev pub decreases-loop-byte : goal.decreases-loop-byte
decreases-loop-byte l = length l.rest
