use Rattle.std.proofs.Common.{ap, ◌∙◌, refl, subst, arith, Some}
use Rattle.fl_model.specs.Events.{refused}
use Rattle.fl_world_refines.specs.View.{WhereEnd}
use Rattle.fl_world_refines.specs.Taking.{RegistersBy}
use Rattle.fl_world.proofs.Lifts.{at_location, core_read, end_read, few_kept, at_core}
use Rattle.fl_world.proofs.Lent.{takes_from, registers_by, read_is, own_arrivals}
use Rattle.fl_world.proofs.world.World.register.Goals as goal

pub returns-in-Nowhere : goal.returns-in-Nowhere
returns-in-Nowhere c = record { registers = subst (λ (s : WhereEnd). RegistersBy s c.args.self.now (refused 92) c.args.self.now) c.in-Nowhere.ensures.location (refl, refl) }

pub returns-in-Unmade : goal.returns-in-Unmade
returns-in-Unmade c = record { registers = subst (λ (s : WhereEnd). RegistersBy s c.args.self.now (refused 43) c.args.self.now) c.in-Unmade.ensures.location (refl, refl) }

pub index-requires : goal.index-requires
index-requires c = omega (arith, core_read c.args.self.now _ c.self.view_is c.in-Made.n c.in-Made.place c.in-Made.ensures.there, c.self.inside.cores.ok.0)

pub inlet-requires : goal.inlet-requires
inlet-requires c = end_read c.args.self.now _ c.self.view_is c.in-Made.n c.in-Made.place c.in-Made.ensures.there c.index.result.now _ c.index.ensures refl

pub register_over_queue-requires-clause-end : goal.register_over_queue-requires-clause-end
register_over_queue-requires-clause-end c = c.in-Made.ensures.there

pub register_over_queue-requires-clause-inlet : goal.register_over_queue-requires-clause-inlet
register_over_queue-requires-clause-inlet c = takes_from c.args.self.now _ c.self.view_is c.in-Made.n c.in-Made.place c.in-Made.ensures.there c.index.result.now c.index.ensures _ (c.inlet.ensures.inlet ∙ ap Some c.in-Queue.is)

pub register_over_side-requires-clause-end : goal.register_over_side-requires-clause-end
register_over_side-requires-clause-end c = c.in-Made.ensures.there

pub register_over_side-requires-clause-inlet : goal.register_over_side-requires-clause-inlet
register_over_side-requires-clause-inlet c = takes_from c.args.self.now _ c.self.view_is c.in-Made.n c.in-Made.place c.in-Made.ensures.there c.index.result.now c.index.ensures _ (c.inlet.ensures.inlet ∙ ap Some c.in-Side.is)

pub index_mut-requires : goal.index_mut-requires
index_mut-requires c = omega (arith, core_read c.args.self.now _ c.self.view_is c.in-Made.n c.in-Made.place c.in-Made.ensures.there, c.self.inside.cores.ok.0)

pub register_in-requires : goal.register_in-requires
register_in-requires c = record {
  own = own_arrivals c.index_mut.result.now c.in-Made.place (takes_from c.args.self.now _ c.self.view_is c.in-Made.n c.in-Made.place c.in-Made.ensures.there
      c.index.result.now c.index.ensures _ (c.inlet.ensures.inlet ∙ ap Some c.in-Arrivals.is)
      c.index_mut.result.now (read_is c.args.self.now _ c.self.view_is c.in-Made.n c.in-Made.place c.in-Made.ensures.there c.index_mut.result.now
      c.index_mut.ensures.value));
}

pub invariant_of-self : goal.invariant_of-self
invariant_of-self c = few_kept c.self.inside.cores.items c.in-Made.n c.register_in.new.core c.self.invariant

pub returns-in-Queue : goal.returns-in-Queue
returns-in-Queue c = record {
  registers = at_location RegistersBy c.args.self.now c.args.e _ c.in-Made.ensures.location _ _
      (registers_by c.args.self.now _ c.self.view_is c.in-Made.n c.in-Made.place c.in-Made.ensures.there c.index.result.now c.index.ensures _ (c.inlet.ensures.inlet ∙ ap Some c.in-Queue.is) _ _ c.register_over_queue.ensures.registers);
}

pub returns-in-Side : goal.returns-in-Side
returns-in-Side c = record {
  registers = at_location RegistersBy c.args.self.now c.args.e _ c.in-Made.ensures.location _ _
      (registers_by c.args.self.now _ c.self.view_is c.in-Made.n c.in-Made.place c.in-Made.ensures.there c.index.result.now c.index.ensures _ (c.inlet.ensures.inlet ∙ ap Some c.in-Side.is) _ _ c.register_over_side.ensures.registers);
}

pub returns-in-Arrivals : goal.returns-in-Arrivals
returns-in-Arrivals c = record {
  registers = at_location RegistersBy c.args.self.now c.args.e _ c.in-Made.ensures.location _ _
      (registers_by c.args.self.now _ c.self.view_is c.in-Made.n c.in-Made.place c.in-Made.ensures.there c.index.result.now c.index.ensures _ (c.inlet.ensures.inlet ∙ ap Some c.in-Arrivals.is) _ _ (at_core c.args.self.now _ c.self.view_is c.in-Made.n (core_read c.args.self.now _ c.self.view_is c.in-Made.n c.in-Made.place c.in-Made.ensures.there) _ _ c.index_mut.ensures.value refl _ _ c.register_in.ensures.registers));
}
