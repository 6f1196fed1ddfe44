use Rattle.std.proofs.Common.{ap, ◌∙◌, refl, subst, arith, Some}
use Rattle.fl_model.specs.Events.{refused}
use Rattle.fl_world_refines.specs.View.{WhereEnd}
use Rattle.fl_world_refines.specs.Taking.{AcksAt}
use Rattle.fl_world.proofs.Lifts.{at_location, core_read, end_read}
use Rattle.fl_world.proofs.Lent.{has_inlet, acks_by}
use Rattle.fl_world.proofs.world.World.ack.Goals as goal

pub returns-in-Nowhere : goal.returns-in-Nowhere
returns-in-Nowhere c = record { acks = subst (λ (s : WhereEnd). AcksAt s c.args.self.now (refused 92) c.args.self.now) c.in-Nowhere.ensures.location (refl, refl) }

pub returns-in-Unmade : goal.returns-in-Unmade
returns-in-Unmade c = record { acks = subst (λ (s : WhereEnd). AcksAt s c.args.self.now (refused 43) c.args.self.now) c.in-Unmade.ensures.location (refl, refl) }

pub index-core-requires : goal.index-core-requires
index-core-requires c = omega (arith, core_read c.args.self.now _ c.self.view_is c.in-Made.n c.in-Made.place c.in-Made.ensures.there, c.self.inside.cores.ok.0)

pub inlet-requires : goal.inlet-requires
inlet-requires c = end_read c.args.self.now _ c.self.view_is c.in-Made.n c.in-Made.place c.in-Made.ensures.there c.index-core.result.now _ c.index-core.ensures refl

pub ack_over_side-requires : goal.ack_over_side-requires
ack_over_side-requires c = record {
  end = c.in-Made.ensures.there;
  inlet = has_inlet c.args.self.now _ c.self.view_is c.in-Made.n c.in-Made.place c.in-Made.ensures.there c.index-core.result.now c.index-core.ensures _ (c.inlet.ensures.inlet ∙ ap
      Some c.in-Side.is);
}

pub returns-in-Side : goal.returns-in-Side
returns-in-Side c = record {
  acks = at_location AcksAt c.args.self.now c.args.e _ c.in-Made.ensures.location _ _
      (acks_by c.args.self.now _ c.self.view_is c.in-Made.n c.in-Made.place c.in-Made.ensures.there c.index-core.result.now c.index-core.ensures _ (c.inlet.ensures.inlet ∙ ap Some c.in-Side.is) _ _ (c.ack_over_side.ensures.acks c.index-core.result.now));
}

pub tell_nothing-requires : goal.tell_nothing-requires
tell_nothing-requires c = record {
  place = end_read c.args.self.now _ c.self.view_is c.in-Made.n c.in-Made.place c.in-Made.ensures.there c.index-core.result.now _ c.index-core.ensures refl;
}

pub tell_nothing-requires-in-Arrivals : goal.tell_nothing-requires-in-Arrivals
tell_nothing-requires-in-Arrivals c = record {
  place = end_read c.args.self.now _ c.self.view_is c.in-Made.n c.in-Made.place c.in-Made.ensures.there c.index-core.result.now _ c.index-core.ensures refl;
}

pub returns-in-Queue : goal.returns-in-Queue
returns-in-Queue c = record {
  acks = at_location AcksAt c.args.self.now c.args.e _ c.in-Made.ensures.location _ _
      (acks_by c.args.self.now _ c.self.view_is c.in-Made.n c.in-Made.place c.in-Made.ensures.there c.index-core.result.now c.index-core.ensures _ (c.inlet.ensures.inlet ∙ ap Some c.in-Queue.is) _ _ (c.tell_nothing.ensures.tells, refl));
}

pub returns-in-Arrivals : goal.returns-in-Arrivals
returns-in-Arrivals c = record {
  acks = at_location AcksAt c.args.self.now c.args.e _ c.in-Made.ensures.location _ _
      (acks_by c.args.self.now _ c.self.view_is c.in-Made.n c.in-Made.place c.in-Made.ensures.there c.index-core.result.now c.index-core.ensures _ (c.inlet.ensures.inlet ∙ ap Some c.in-Arrivals.is) _ _ (c.tell_nothing-in-Arrivals.ensures.tells, refl));
}
