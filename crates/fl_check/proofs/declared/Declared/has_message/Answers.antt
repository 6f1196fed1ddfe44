use Rattle.std.proofs.Common.{◌∙◌, refl}
use Rattle.fl_interface.specs.Interface.{TheMessage}
use Rattle.fl_check.specs.Views.{declared_message}
use Rattle.fl_check.proofs.NameMaps.{among}
use Rattle.fl_check.proofs.declared.Declared.has_message.Goals as goal

pub returns : goal.returns
returns c = record { exact = c.contains_key.ensures ∙ among (λ k. k.items) declared_message (λ (m : TheMessage). m.name) (λ e. refl) c.args.self.now.messages.entries c.args.name.now }
