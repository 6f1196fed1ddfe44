use Rattle.std.proofs.Common.{refl, subst, arith}
use Rattle.fl_model.specs.Events.{Answer, refused}
use Rattle.fl_model.specs.Views.{answer_of}
use Rattle.fl_world_refines.specs.View.{WhereEnd, TheWorld}
use Rattle.fl_world_refines.specs.Taking.{reply_rule, RulesAt}
use Rattle.fl_world.proofs.Lifts.{unmade_below, binding_read, at_unmade, at_core, core_read, end_read, few_kept, at_location}
use Rattle.fl_world.proofs.world.World.reply.Goals as goal

pub returns-in-Nowhere : goal.returns-in-Nowhere
returns-in-Nowhere c = record { rules = subst (λ (s : WhereEnd). RulesAt s (reply_rule c.args.e c.args.message.0 c.args.answer.0) c.args.self.now (refused 92) c.args.self.now) c.in-Nowhere.ensures.location (refl, refl) }

pub index_mut-requires : goal.index_mut-requires
index_mut-requires c = omega (
  arith,
  binding_read c.args.self.now _ c.self.view_is c.args.e.binding (unmade_below c.args.self.now c.args.e
      c.in-Unmade.ensures.location),
  c.self.inside.bindings.ok.0,
)

pub invariant_of-self : goal.invariant_of-self
invariant_of-self c = c.self.invariant

pub returns-in-Unmade : goal.returns-in-Unmade
returns-in-Unmade c = record {
  rules = at_location (λ (s : WhereEnd) (w : TheWorld) (a : Answer) (w2 : TheWorld). RulesAt s (reply_rule c.args.e c.args.message.0
      c.args.answer.0) w a w2) c.args.self.now c.args.e _ c.in-Unmade.ensures.location (answer_of c.rule_kept.result) _ (at_unmade c.args.self.now _
      c.self.view_is c.args.e.binding (binding_read c.args.self.now _ c.self.view_is c.args.e.binding (unmade_below c.args.self.now c.args.e
      c.in-Unmade.ensures.location)) _ _ c.index_mut.ensures.value refl _ _ c.rule_kept.new.binding c.rule_kept.ensures.rules);
}

pub index_mut-requires-in-Made : goal.index_mut-requires-in-Made
index_mut-requires-in-Made c = omega (
  arith,
  core_read c.args.self.now _ c.self.view_is c.in-Made.n c.in-Made.place c.in-Made.ensures.there,
  c.self.inside.cores.ok.0,
)

pub rule_in-requires : goal.rule_in-requires
rule_in-requires c = record {
  place = end_read c.args.self.now _ c.self.view_is c.in-Made.n c.in-Made.place c.in-Made.ensures.there
      c.index_mut-in-Made.result.now _ c.index_mut-in-Made.ensures.value refl;
}

pub invariant_of-self-in-Made : goal.invariant_of-self-in-Made
invariant_of-self-in-Made c = few_kept c.self.inside.cores.items c.in-Made.n c.rule_in.new.core c.self.invariant

pub returns-in-Made : goal.returns-in-Made
returns-in-Made c = record {
  rules = at_location (λ (s : WhereEnd) (w : TheWorld) (a : Answer) (w2 : TheWorld). RulesAt s (reply_rule c.args.e c.args.message.0
      c.args.answer.0) w a w2) c.args.self.now c.args.e _ c.in-Made.ensures.location (answer_of c.rule_in.result) _ (at_core c.args.self.now _ c.self.view_is
      c.in-Made.n (core_read c.args.self.now _ c.self.view_is c.in-Made.n c.in-Made.place c.in-Made.ensures.there) _ _ c.index_mut-in-Made.ensures.value refl
      _ _ c.rule_in.ensures.rules);
}
