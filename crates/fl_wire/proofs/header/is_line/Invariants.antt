use Rattle.std.proofs.Common.{◌<◌, ◌^◌, ℕ, get_or}
use Rattle.fl_wire.proofs.header.is_line.Given as goal

-- the words so far are in range
abbrev pub invariant-loop-word : goal.invariant-loop-word
invariant-loop-word l = (k d : ℕ) → k < l.word-index → get_or l.word-items k d < 2 ^ 64
