use Rattle.std.proofs.Common.{refl}
use Rattle.fl_check.specs.Known.{Named}
use Rattle.fl_check.specs.Views.{named_of}
use Rattle.fl_check.proofs.NameMaps.{push}
use Rattle.fl_check.proofs.declared.Declared.push_type.Goals as goal

pub returns-clause-types : goal.returns-clause-types
returns-clause-types c =
    push (λ k. k.now) named_of (λ (n : Named). n.name) (λ e. refl) c.args.self.now.types.entries c.insert.new.self.entries c.args.name c.args.known c.in_ok-insert.ensures.entries c.requires.new
