use Rattle.std.proofs.Common.{sym, ap, length, ◌∙◌}
use Rattle.fl_nameserv.proofs.Numbers.{length_numbered}
use Rattle.fl_nameserv.proofs.registrations.RegistrationsExactSizeIterator.len.Goals as goal

pub returns-clause-value : goal.returns-clause-value
returns-clause-value c =
    c.len.ensures.value ∙ sym (length_numbered c.self.inside.place c.self.inside.entries) ∙ ap length c.self.view_is
