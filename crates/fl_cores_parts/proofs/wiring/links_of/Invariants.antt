use Rattle.std.proofs.Common.{◌≡◌}
use Rattle.fl_cores_parts.specs.Begins.{links_below}
use Rattle.fl_cores_parts.proofs.wiring.links_of.Given as goal

-- the links so far
abbrev pub invariant-loop-number : goal.invariant-loop-number
invariant-loop-number l = l.links.items ≡ links_below l.number
