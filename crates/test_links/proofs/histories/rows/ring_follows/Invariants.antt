use Rattle.fl_history_rings.specs.Sides.{SideFor}
use Rattle.test_links.proofs.histories.rows.ring_follows.Given as goal

-- both sides are still their cores'
abbrev pub invariant-loop-row : goal.invariant-loop-row
invariant-loop-row l = record { first : SideFor l.one l.first; second : SideFor l.two l.second }
