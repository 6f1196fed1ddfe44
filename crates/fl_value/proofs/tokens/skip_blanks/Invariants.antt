use Rattle.std.proofs.Common.{length, ◌≡◌, ◌≤◌}
use Rattle.fl_value.specs.CallText.{without_blanks, Blanks}
use Rattle.fl_value.proofs.tokens.skip_blanks.Given as goal

abbrev pub invariant-loop-rest : goal.invariant-loop-rest
invariant-loop-rest l = record { blank : Blanks l.bytes l.rest; shorter : length l.rest ≤ length l.bytes; same : without_blanks l.rest ≡ without_blanks l.bytes }

abbrev pub decreases-loop-rest : goal.decreases-loop-rest
decreases-loop-rest l = length l.rest
