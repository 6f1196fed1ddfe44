use Rattle.std.proofs.Common.{sym, ◌∙◌, refl, length-set}
use Rattle.fl_link.specs.Queue.{QueueTakes}
use Rattle.fl_core.proofs.Seated.{turn_kinds}
use Rattle.fl_core.proofs.Kept.{parts_kept}
use Rattle.fl_core.proofs.Acting.{over_arrivals}
use Rattle.fl_core.proofs.Unmoved.{turn_unmoved, kept_over}
use Rattle.fl_core.proofs.one_core.Core.turn_arrivals.Goals as goal

pub invariant_of-self : goal.invariant_of-self
invariant_of-self c = parts_kept _ c.turn.new.self c.self.inside.monitor c.self.inside.link_sides.items _ c.self.invariant (turn_kinds QueueTakes c.args.dispatcher c.args.e _ _ c.turn.result c.turn.ensures.turns) refl refl (length-set c.self.inside.arrivals.items c.in-Some.a c.turn.new.from)

pub returns-clause-turns : goal.returns-clause-turns
returns-clause-turns c = over_arrivals c.args.self.now _ c.self.view_is c.args.e c.in-Some.a (sym c.arrivals_of.ensures.arrivals ∙ c.in-Some.is) c.in-Some.ensures.within _ _ c.index_mut.ensures.value refl _ c.turn.new.self c.turn.new.from c.turn.ensures.turns

pub returns-clause-kept : goal.returns-clause-kept
returns-clause-kept c = kept_over c.args.self.now _ c.self.view_is c.turn.result c.in-Some.a c.in-Some.ensures.within _ _ c.turn.new.from c.index_mut.ensures.value refl c.turn.new.self c.turn.ensures.kept (turn_unmoved c.args.dispatcher c.args.e _ _ c.turn.result c.turn.ensures.turns)
