use Rattle.std.proofs.Common.{sym, ◌∙◌}
use Rattle.fl_world_events.proofs.Last.{on_err}
use Rattle.fl_world.proofs.Last.{route_last}
use Rattle.fl_world.proofs.world.World.bind_by_route.Goals as goal

pub returns-clause-last : goal.returns-clause-last
returns-clause-last c = on_err c.open_along.result (route_last c.args.want c.args.cores.now c.args.self.now (sym c.may_be_route.ensures.may ∙ c.if-not-may_be_route.false)
    _ c.path-path.ensures.path) c.open_along.ensures.last
