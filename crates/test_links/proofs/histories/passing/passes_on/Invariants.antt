use Rattle.fl_history_rings.specs.Cores.{IsSameCore}
use Rattle.test_links.specs.TwoSides.{HasBoth}
use Rattle.test_links.proofs.histories.passing.passes_on.Given as goal

-- the core keeps its sides
abbrev pub invariant-loop : goal.invariant-loop
invariant-loop g l = record { sides : HasBoth l.core l.from l.to; same : IsSameCore l.initial.core l.core }
