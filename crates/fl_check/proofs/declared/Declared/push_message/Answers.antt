use Rattle.std.proofs.Common.{refl}
use Rattle.fl_check.proofs.Names.{insert_named, kept_named}
use Rattle.fl_interface.specs.Interface.{TheMessage}
use Rattle.fl_check.specs.Views.{declared_message}
use Rattle.fl_check.proofs.NameMaps.{push}
use Rattle.fl_check.proofs.declared.Declared.push_message.Goals as goal

pub returns-clause-messages : goal.returns-clause-messages
returns-clause-messages c =
    push (λ k. k.items) declared_message (λ (m : TheMessage). m.name) (λ e. refl) c.args.self.now.messages.entries c.insert.new.self.entries c.args.name c.args.args c.in_ok-insert.ensures.entries c.requires.new

pub invariant_of-self : goal.invariant_of-self
invariant_of-self c =
    let old = c.args.self.now.messages.entries in
    record {
      named = kept_named c.insert.result old c.insert.new.self.entries _ c.insert.ensures.entries c.insert.ensures.err c.args.self.now.named
          (insert_named _ old c.args.name c.args.args c.args.self.now.named c.requires.word);
    }
