use Rattle.std.proofs.Common.{sym, ◌∙◌}
use Rattle.fl_interface.specs.Interface.{interface_of}
use Rattle.fl_value.proofs.Round.{fitting_known}
use Rattle.fl_value.proofs.Resolved.{unknown, known}
use Rattle.fl_value.proofs.calls.without_call.Goals as goal

pub returns-in_default-message_of_name-clause-exact : goal.returns-in_default-message_of_name-clause-exact
returns-in_default-message_of_name-clause-exact c =
    let values = c.in-Some.ensures.found.0 in (
      c.in-Some.name.now,
      values,
      c.in-Some.ensures.found.1,
      unknown (interface_of c.args.interface.now) c.in-Some.name.now values (sym c.in_default-message_of_name.ensures.same),
    )

pub returns-clause-message : goal.returns-clause-message
returns-clause-message c =
    let values = c.in-Some.ensures.found.0 in
    let number = c.in-Some-message_of_name._msg.0 in (
      c.in-Some.name.now,
      values,
      c.in-Some.ensures.found.1,
      λ e. fitting_known (interface_of c.args.interface.now) (record { msg = number; args = values })
          (sym (known (interface_of c.args.interface.now) c.in-Some.name.now values number (sym c.in-Some-message_of_name.ensures.same)) ∙ e),
    )
