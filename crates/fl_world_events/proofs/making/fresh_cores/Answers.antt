use Rattle.fl_world_events.proofs.Makes.{one_fresh}
use Rattle.fl_world_events.proofs.making.fresh_cores.Goals as goal

pub loop-core-preserved : goal.loop-core-preserved
loop-core-preserved c = one_fresh c.loop-core.core _ _ _ c.loop-core.invariant c.in_ok-core.ensures.empty c.in_ok-push.ensures.items
