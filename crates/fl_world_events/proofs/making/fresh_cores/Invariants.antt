use Rattle.std.proofs.Common.{◌≡◌}
use Rattle.fl_world_refines.specs.Making.{fresh_cores}
use Rattle.fl_world_events.proofs.making.fresh_cores.Given as goal

abbrev pub invariant-loop-core : goal.invariant-loop-core
invariant-loop-core l = l.cores.items ≡ fresh_cores l.core
