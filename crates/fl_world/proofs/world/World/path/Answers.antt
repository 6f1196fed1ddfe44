use Rattle.fl_world.proofs.Routes.{small_route}
use Rattle.fl_world.proofs.world.World.path.Goals as goal

pub path_over-requires-clause-small : goal.path_over-requires-clause-small
path_over-requires-clause-small c = small_route c.args.self.now _ c.self.view_is c.args.cores.now c.self.invariant c.requires.route
