use Rattle.std.proofs.Common.{◌≡◌}
use Rattle.test_links.proofs.streams.put_counted.Given as goal

-- the side stays the same stream's
abbrev pub invariant-loop : goal.invariant-loop
invariant-loop g l = l.tx.stream ≡ l.initial.tx.stream
