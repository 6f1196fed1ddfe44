use Rattle.std.proofs.Common.{map, sym, subst, Result}
use Rattle.fl_interface.specs.Interface.{interface_of}
use Rattle.fl_value_data.specs.Value.{TheCall, datum_of}
use Rattle.fl_value.specs.declared.fault.ValueFault.{ValueFault}
use Rattle.fl_value.specs.Resolve.{Answers}
use Rattle.fl_value.proofs.Resolved.{unknown, known}
use Rattle.fl_value.proofs.calls.resolve_named.Goals as goal

pub returns-in_default : goal.returns-in_default
returns-in_default c = record {
  exact = unknown (interface_of c.args.interface.now) c.args.name.now (map datum_of c.args.args.items) (sym c.in_default.ensures.same);
}

pub returns : goal.returns
returns c = record {
  exact =
      subst (λ (a : Result TheCall ValueFault). Answers c.fitting_call.result a)
      (sym (known (interface_of c.args.interface.now) c.args.name.now (map datum_of c.args.args.items) c.in-Some.msg.0 (sym c.in-Some.ensures.same)))
      c.fitting_call.ensures.exact;
}
