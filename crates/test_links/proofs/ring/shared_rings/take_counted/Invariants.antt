use Rattle.std.proofs.Common.{◌≡◌}
use Rattle.test_links.proofs.ring.shared_rings.take_counted.Given as goal

-- the side stays the same ring's
abbrev pub invariant-loop : goal.invariant-loop
invariant-loop g l = l.rx.ring ≡ l.initial.rx.ring
