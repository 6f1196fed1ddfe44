use Rattle.fl_world_refines.specs.Linking.{offers_in}
use Rattle.fl_world_events.specs.Places.{link_side_from}
use Rattle.fl_world.proofs.Following.{left_first, left_forgot}
use Rattle.fl_world.proofs.Hearing.{left_says}
use Rattle.fl_world.proofs.world.World.hear_first.Goals as goal

pub returns-in-Err-clause-hears : goal.returns-in-Err-clause-hears
returns-in-Err-clause-hears c = left_first c.args.self.now _ _ c.args.n (link_side_from c.args.at) c.args.frag.now c.hear.result c.hear.ensures.hears _ c.in-Err.is c.leave.result c.leave.ensures.same c.leave.ensures.heard

pub returns-in-Err-clause-forgot : goal.returns-in-Err-clause-forgot
returns-in-Err-clause-forgot c = left_forgot c.args.self.now _ _ c.args.n c.args.at.side c.args.known (offers_in c.args.self.now) c.args.at.link c.args.frag.now c.hear.result c.hear.ensures.hears _ c.in-Err.is c.leave.result c.leave.ensures.memory c.leave.ensures.forgot

pub returns-in-Err-clause-last : goal.returns-in-Err-clause-last
returns-in-Err-clause-last c = left_says c.args.self.now c.args.n c.args.at.link c.args.frag.now c.hear.result c.hear.ensures.last _ c.in-Err.is c.leave.result c.leave.ensures.memory
