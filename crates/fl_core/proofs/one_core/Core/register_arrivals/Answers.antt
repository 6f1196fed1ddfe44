use Rattle.std.proofs.Common.{sym, ◌∙◌, refl}
use Rattle.fl_core.proofs.Acting.{over_arrivals}
use Rattle.fl_core.proofs.Unmoved.{register_unmoved, kept_over}
use Rattle.fl_core.proofs.one_core.Core.register_arrivals.Goals as goal

pub returns-clause-registers : goal.returns-clause-registers
returns-clause-registers c = over_arrivals c.args.self.now _ c.self.view_is c.args.e c.in-Some.a (sym c.arrivals_of.ensures.arrivals ∙ c.in-Some.is) c.in-Some.ensures.within _ _ c.index_mut.ensures.value refl _ c.register.new.self c.register.new.from c.register.ensures.registers

pub returns-clause-kept : goal.returns-clause-kept
returns-clause-kept c = kept_over c.args.self.now _ c.self.view_is c.register.result c.in-Some.a c.in-Some.ensures.within _ _ c.register.new.from c.index_mut.ensures.value refl c.register.new.self c.register.ensures.kept (register_unmoved c.args.e c.register.result _ _ _ _ c.register.ensures.registers)
