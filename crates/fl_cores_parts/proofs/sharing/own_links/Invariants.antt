use Rattle.fl_cores_parts.specs.Dealing.{IsLinkSide, Below, Owns}
use Rattle.fl_cores_parts.proofs.sharing.own_links.Given as goal

-- the sides of the links so far are the core's
abbrev pub invariant-loop-number : goal.invariant-loop-number
invariant-loop-number l = Owns (Below (IsLinkSide l.core.link_sides) l.number) l.k l.fn.owners.items l.owners.items
