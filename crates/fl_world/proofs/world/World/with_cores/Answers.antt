use Rattle.fl_world.proofs.Makes.{few_fresh}
use Rattle.fl_world.proofs.world.World.with_cores.Goals as goal

pub invariant_of-result : goal.invariant_of-result
invariant_of-result c = few_fresh c.args.n _ c.in_ok-cores.ensures c.requires.few
