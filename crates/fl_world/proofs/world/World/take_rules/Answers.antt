use Rattle.std.proofs.Common.{refl, arith}
use Rattle.fl_world.proofs.Lifts.{core_read, end_read, few_kept}
use Rattle.fl_world.proofs.Following.{takes_kept}
use Rattle.fl_world.proofs.Lent.{past_end, no_rules}
use Rattle.fl_world.proofs.world.World.take_rules.Goals as goal

pub returns : goal.returns
returns c = record { takes = takes_kept c.args.self.now _ c.self.view_is c.args.n c.args.place c.args.binding (core_read c.args.self.now _ c.self.view_is c.args.n c.args.place c.requires.end) (omega (arith, c.in-Some.ensures.variant.0 refl, c.self.inside.bindings.ok.0)) _ _ c.index_mut.ensures.value refl _ _ c.in-Some.ensures.value refl _ _ c.take_rules_of.ensures.takes }

pub invariant_of-self : goal.invariant_of-self
invariant_of-self c = c.self.invariant

pub invariant_of-self-2 : goal.invariant_of-self-2
invariant_of-self-2 c = few_kept c.self.inside.cores.items c.args.n c.take_rules_of.new.core c.self.invariant

pub index_mut-requires : goal.index_mut-requires
index_mut-requires c = omega (arith, core_read c.args.self.now _ c.self.view_is c.args.n c.args.place c.requires.end, c.self.inside.cores.ok.0)

pub take_rules_of-requires : goal.take_rules_of-requires
take_rules_of-requires c = record { place = end_read c.args.self.now _ c.self.view_is c.args.n c.args.place c.requires.end c.index_mut.result.now _ c.index_mut.ensures.value refl }

pub returns-in_default : goal.returns-in_default
returns-in_default c = record { takes = no_rules c.args.self.now _ c.self.view_is c.args.n c.args.place c.args.binding (omega (arith, past_end _ _ c.in_default.ensures.variant.1, c.self.inside.bindings.ok.0)) }
