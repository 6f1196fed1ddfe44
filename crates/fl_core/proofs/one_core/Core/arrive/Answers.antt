use Rattle.std.proofs.Common.{sym, ◌∙◌, refl, subst, length-set, Option, ℕ}
use Rattle.fl_hop.specs.declared.forward.ForwardOutcome.{ForwardOutcome}
use Rattle.fl_core.specs.Ends.{TriggersIf}
use Rattle.fl_core.specs.Links.{reached}
use Rattle.fl_core.proofs.Seated.{lists_kinds}
use Rattle.fl_core.proofs.Kept.{parts_kept, failed_kept, failed_is}
use Rattle.fl_core.proofs.Arrivals.{not_moved, arrives_done}
use Rattle.fl_core.proofs.one_core.Core.arrive.Goals as goal

pub invariant_of-self : goal.invariant_of-self
invariant_of-self g c = failed_kept _ c.args.link.0 c.fail.new.link_sides.items c.self.invariant c.fail.ensures.failed

pub invariant_of-self-in-Moved : goal.invariant_of-self-in-Moved
invariant_of-self-in-Moved g c = parts_kept _ c.trigger.new.self c.self.inside.monitor c.self.inside.link_sides.items _ c.self.invariant (lists_kinds c.self.inside.board c.trigger.new.self c.in-Some.at.end _ c.trigger.ensures.triggers) refl refl (length-set c.self.inside.arrivals.items c.in-Some.at.queue c.deliver-outcome.new.queue)

pub invariant_of-self-in_default-outcome : goal.invariant_of-self-in_default-outcome
invariant_of-self-in_default-outcome g c = parts_kept _ c.self.inside.board c.self.inside.monitor c.self.inside.link_sides.items _ c.self.invariant refl refl refl (length-set c.self.inside.arrivals.items c.in-Some.at.queue c.deliver-outcome.new.queue)

pub returns-in_default : goal.returns-in_default
returns-in_default g c = record { arrives = (sym c.arriving_at.ensures.at ∙ c.in_default.is, failed_is c.args.self.now _ c.self.view_is c.args.link.0 c.fail.new.link_sides.items c.fail.ensures.failed, refl) }

pub returns-in-Moved : goal.returns-in-Moved
returns-in-Moved g c = record { arrives = arrives_done g.T.TakeSide.takes c.args.self.now _ c.self.view_is c.args.frag.now c.args.name c.in-Some.at c.args.from.now c.deliver-outcome.new.from c.deliver-outcome.result _ _ c.deliver-outcome.new.queue c.trigger.new.self (sym c.arriving_at.ensures.at ∙ c.in-Some.is) c.in-Some.ensures.queue c.index_mut.ensures.value refl c.deliver-outcome.ensures.put c.deliver-outcome.ensures.left (subst (λ (o : ForwardOutcome). TriggersIf (reached c.in-Some.at.end o) c.self.inside.board c.trigger.new.self) (sym c.in-Moved.is) c.trigger.ensures.triggers) }

pub returns-in_default-outcome : goal.returns-in_default-outcome
returns-in_default-outcome g c = record { arrives = arrives_done g.T.TakeSide.takes c.args.self.now _ c.self.view_is c.args.frag.now c.args.name c.in-Some.at c.args.from.now c.deliver-outcome.new.from c.deliver-outcome.result _ _ c.deliver-outcome.new.queue c.self.inside.board (sym c.arriving_at.ensures.at ∙ c.in-Some.is) c.in-Some.ensures.queue c.index_mut.ensures.value refl c.deliver-outcome.ensures.put c.deliver-outcome.ensures.left (subst (λ (o : Option ℕ). TriggersIf o c.self.inside.board c.self.inside.board) (sym (not_moved c.in-Some.at.end c.deliver-outcome.result c.in_default-outcome.not-Moved)) refl) }
