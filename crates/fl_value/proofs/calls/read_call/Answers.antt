use Rattle.std.proofs.Common.{map}
use Rattle.fl_interface.specs.Interface.{interface_of}
use Rattle.fl_value_data.specs.Value.{datum_of}
use Rattle.fl_value.specs.declared.fault.ValueFault.TheVariants.{NotACall}
use Rattle.fl_value.proofs.Round.{only_resolved, only_read}
use Rattle.fl_value.proofs.Resolved.{wants_resolved}
use Rattle.fl_value.proofs.calls.read_call.Goals as goal

pub returns-in-Ok-clause-only : goal.returns-in-Ok-clause-only
returns-in-Ok-clause-only c =
    only_resolved (interface_of c.args.interface.now) c.args.bytes.now c.in-Ok.name.now (map datum_of c.in-Ok.args.items) c.in-Ok.ensures.found c.resolve_named.result
    c.resolve_named.ensures.exact

pub returns-in-Ok-clause-message : goal.returns-in-Ok-clause-message
returns-in-Ok-clause-message c =
    wants_resolved (interface_of c.args.interface.now) c.args.bytes.now c.in-Ok.name.now (map datum_of c.in-Ok.args.items) c.resolve_named.result c.in-Ok.ensures.found
    c.resolve_named.ensures.exact

pub returns-in-Err-NotACall-clause-only : goal.returns-in-Err-NotACall-clause-only
returns-in-Err-NotACall-clause-only c =
    let none = rw c.in-Err-NotACall.field-0-is at c.in-Err-NotACall.ensures.fault in
    only_read (interface_of c.args.interface.now) c.args.bytes.now NotACall none

pub returns-in-Err-clause-only : goal.returns-in-Err-clause-only
returns-in-Err-clause-only c = only_read (interface_of c.args.interface.now) c.args.bytes.now c.without_call.result c.without_call.ensures.exact
