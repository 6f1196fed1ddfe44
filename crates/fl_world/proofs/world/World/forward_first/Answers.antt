use Rattle.fl_world.proofs.Following.{may_follow, forward_kept}
use Rattle.fl_world_events.specs.Places.{link_side_from}
use Rattle.fl_world.proofs.Hearing.{finds_message}
use Rattle.fl_world.proofs.world.World.forward_first.Goals as goal

pub follow-requires-clause-seen : goal.follow-requires-clause-seen
follow-requires-clause-seen c = may_follow c.law_forgets_looks.ensures.forgets c.args.self.now _ c.args.n c.args.at.side c.args.at.link.0 c.known-known.result c.known-known.ensures.known c.look.result c.look.ensures.looks _ c.in-Ok.is

pub returns-in-Ok-clause-kept : goal.returns-in-Ok-clause-kept
returns-in-Ok-clause-kept c = forward_kept c.law_forgets_looks.ensures.forgets c.args.self.now _ _ c.args.n c.args.at.side c.args.at.link.0 c.known-known.result c.known-known.ensures.known c.look.result c.look.ensures.looks _ c.in-Ok.is c.follow.result c.follow.ensures.forgot

pub returns-in-Ok-clause-last : goal.returns-in-Ok-clause-last
returns-in-Ok-clause-last c = finds_message c.args.self.now _ c.args.n (link_side_from c.args.at) c.look.result c.look.ensures.looks _ c.in-Ok.is c.follow.result c.follow.ensures.last
