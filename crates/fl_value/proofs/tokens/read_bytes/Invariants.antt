use Rattle.std.proofs.Common.{length}
use Rattle.fl_value.specs.CallText.{TextBytes}
use Rattle.fl_value.proofs.tokens.read_bytes.Given as goal

abbrev pub invariant-loop-byte : goal.invariant-loop-byte
invariant-loop-byte l = TextBytes l.text.items l.bytes l.rest

abbrev pub decreases-loop-byte : goal.decreases-loop-byte
decreases-loop-byte l = length l.rest
