use Rattle.std.proofs.Common.{refl, subst}
use Rattle.fl_model.specs.Events.{refused}
use Rattle.fl_world_refines.specs.View.{WhereEnd}
use Rattle.fl_world_refines.specs.Sending.{PreviewsAt}
use Rattle.fl_world.proofs.Lifts.{at_location}
use Rattle.fl_world.proofs.world.World.show.Goals as goal

pub returns-in-Nowhere : goal.returns-in-Nowhere
returns-in-Nowhere c = record { shows = subst (λ (s : WhereEnd). PreviewsAt s c.args.self.now (refused 92) c.args.self.now) c.in-Nowhere.ensures.location (refl, refl) }

pub returns-in-Unmade : goal.returns-in-Unmade
returns-in-Unmade c = record { shows = subst (λ (s : WhereEnd). PreviewsAt s c.args.self.now (refused 43) c.args.self.now) c.in-Unmade.ensures.location (refl, refl) }

pub outlet-requires : goal.outlet-requires
outlet-requires c = record { end = c.in-Made.ensures.there }

pub show_over_queue-requires : goal.show_over_queue-requires
show_over_queue-requires c = record { end = c.in-Made.ensures.there }

pub show_over_side-requires : goal.show_over_side-requires
show_over_side-requires c = record { end = c.in-Made.ensures.there }

pub returns-in-Queue : goal.returns-in-Queue
returns-in-Queue c = record {
  shows = at_location PreviewsAt c.args.self.now c.args.e _ c.in-Made.ensures.location _ _
      (_, (c.in-Queue.ensures.outlet, c.show_over_queue.ensures.shows c.in-Queue.ensures.outlet.core c.in-Queue.ensures.outlet.core_is));
}

pub returns-in-Side : goal.returns-in-Side
returns-in-Side c = record {
  shows = at_location PreviewsAt c.args.self.now c.args.e _ c.in-Made.ensures.location _ _
      (_, (c.in-Side.ensures.outlet, c.show_over_side.ensures.shows c.in-Side.ensures.outlet.core c.in-Side.ensures.outlet.core_is));
}
