use Rattle.std.specs.Prelude.{length}
use Rattle.fl_world_events.proofs.by_route.+all_differ.Given as goal

abbrev pub decreases-all_differ : goal.decreases-all_differ
decreases-all_differ l = length l.cores.now
