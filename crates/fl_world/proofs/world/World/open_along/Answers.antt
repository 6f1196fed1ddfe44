use Rattle.fl_world_events.proofs.Last.{on_err}
use Rattle.fl_world.proofs.Last.{opens_last}
use Rattle.fl_world.proofs.world.World.open_along.Goals as goal

pub returns-in-Ok-clause-last : goal.returns-in-Ok-clause-last
returns-in-Ok-clause-last c = on_err c.open_on_link.result (opens_last c.args.want c.args.path c.in-Ok.link c.args.self.now c.in-Ok.ensures.may) c.open_on_link.ensures.last
