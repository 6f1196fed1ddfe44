use Rattle.std.proofs.Common.{refl, subst, arith}
use Rattle.fl_model.specs.Events.{refused}
use Rattle.fl_model.specs.Views.{answer_of}
use Rattle.fl_world_refines.specs.View.{WhereEnd}
use Rattle.fl_world_refines.specs.Taking.{DeregistersBy}
use Rattle.fl_world.proofs.Lifts.{core_read, end_read, few_kept, at_core, at_location}
use Rattle.fl_world.proofs.world.World.deregister.Goals as goal

pub returns-in-Nowhere : goal.returns-in-Nowhere
returns-in-Nowhere c = record { deregisters = subst (λ (s : WhereEnd). DeregistersBy s c.args.self.now (refused 92) c.args.self.now) c.in-Nowhere.ensures.location (refl, refl) }

pub returns-in-Unmade : goal.returns-in-Unmade
returns-in-Unmade c = record { deregisters = subst (λ (s : WhereEnd). DeregistersBy s c.args.self.now (refused 43) c.args.self.now) c.in-Unmade.ensures.location (refl, refl) }

pub index_mut-requires : goal.index_mut-requires
index_mut-requires c = omega (arith, core_read c.args.self.now _ c.self.view_is c.in-Made.n c.in-Made.place c.in-Made.ensures.there, c.self.inside.cores.ok.0)

pub deregister_in-requires : goal.deregister_in-requires
deregister_in-requires c = record {
  place = end_read c.args.self.now _ c.self.view_is c.in-Made.n c.in-Made.place c.in-Made.ensures.there
      c.index_mut.result.now _ c.index_mut.ensures.value refl;
}

pub invariant_of-self : goal.invariant_of-self
invariant_of-self c = few_kept c.self.inside.cores.items c.in-Made.n c.deregister_in.new.core c.self.invariant

pub returns-in-Made : goal.returns-in-Made
returns-in-Made c = record {
  deregisters = at_location DeregistersBy c.args.self.now c.args.e _ c.in-Made.ensures.location (answer_of c.deregister_in.result) _
      (at_core c.args.self.now _ c.self.view_is c.in-Made.n (core_read c.args.self.now _ c.self.view_is c.in-Made.n c.in-Made.place c.in-Made.ensures.there) _
      _ c.index_mut.ensures.value refl _ _ c.deregister_in.ensures.deregisters);
}
