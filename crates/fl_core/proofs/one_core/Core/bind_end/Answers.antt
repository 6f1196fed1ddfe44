use Rattle.std.proofs.Common.{sym, ◌∙◌, refl, length-set}
use Rattle.fl_core.proofs.Seated.{lists_kinds, end_kinds}
use Rattle.fl_core.proofs.Kept.{parts_kept}
use Rattle.fl_core.proofs.Binding.{binds_done, binds_found}
use Rattle.fl_core.proofs.one_core.Core.bind_end.Goals as goal

pub invariant_of-self : goal.invariant_of-self
invariant_of-self c = parts_kept _ c.register.new.self c.self.inside.monitor c.self.inside.link_sides.items _ c.self.invariant (lists_kinds c.bind.new.self c.register.new.self c.in-Some.at.end _ c.register.ensures.registers ∙ end_kinds c.self.inside.board c.bind.new.self c.in-Some.at.end _ c.bind.ensures.binds) refl refl (length-set c.self.inside.arrivals.items c.in-Some.at.queue c.register.new.from)

pub returns-in-Some : goal.returns-in-Some
returns-in-Some c = record { binds = binds_found _ c.in-Some.at c.args.circuit c.args.self.now _ (sym c.arriving_at.ensures.at ∙ c.in-Some.is) (binds_done c.args.self.now _ c.self.view_is c.in-Some.at c.args.circuit c.bind.new.self c.register.new.self _ _ c.register.new.from c.register.result c.bind.ensures.binds c.in-Some.ensures.queue c.index_mut.ensures.value refl c.register.ensures.registers) }
