use Rattle.std.proofs.Common.{◌∙◌, refl}
use Rattle.fl_check.specs.Known.{Named}
use Rattle.fl_check.specs.Views.{named_of}
use Rattle.fl_check.proofs.NameMaps.{among}
use Rattle.fl_check.proofs.declared.Declared.has_type.Goals as goal

pub returns : goal.returns
returns c = record { exact = c.contains_key.ensures ∙ among (λ k. k.now) named_of (λ (n : Named). n.name) (λ e. refl) c.args.self.now.types.entries c.args.name.now }
