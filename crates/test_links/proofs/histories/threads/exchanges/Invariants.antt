use Rattle.fl_history_rings.specs.Cores.{IsSameCore}
use Rattle.fl_history_rings.specs.Sides.{SideFor}
use Rattle.test_links.proofs.histories.threads.exchanges.Given as goal

-- the core keeps its side
abbrev pub invariant-loop : goal.invariant-loop
invariant-loop g l = record { mine : SideFor l.core l.side; same : IsSameCore l.initial.core l.core }
