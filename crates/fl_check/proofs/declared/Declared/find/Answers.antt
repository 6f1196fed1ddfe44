use Rattle.std.proofs.Common.{◌∙◌}
use Rattle.fl_check.specs.declared.declared.KnownType.{KnownType}
use Rattle.fl_interface.specs.Interface.{type_of}
use Rattle.fl_check.proofs.NameMaps.{lent, found}
use Rattle.fl_check.proofs.declared.Declared.find.Goals as goal

pub returns : goal.returns
returns c = record { exact = lent (λ (t : KnownType). type_of t.measured.fixed) c.get.result _ c.get.ensures.value ∙ found c.args.self.now.types.entries c.args.name.now }
