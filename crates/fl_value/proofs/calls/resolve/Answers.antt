use Rattle.std.proofs.Common.{◌∙◌, ℕ, List, map, sym, ap, subst, Result}
use Rattle.fl_interface.specs.Interface.{interface_of}
use Rattle.fl_value_data.specs.Value.{TheCall, datum_of}
use Rattle.fl_value.specs.declared.fault.ValueFault.{ValueFault}
use Rattle.fl_value.specs.Resolve.{message_number, Answers}
use Rattle.fl_value.proofs.Resolved.{unknown, known}
use Rattle.fl_value.proofs.calls.resolve.Goals as goal

pub returns-in_default : goal.returns-in_default
returns-in_default c =
    let i = interface_of c.args.interface.now in
    let name = ap (λ (n : List ℕ). message_number i n) (sym c.deref.ensures.value) in
    record { exact = unknown i c.args.text.name.bytes.items (map datum_of c.args.text.args.items) (name ∙ sym c.in_default.ensures.same) }

pub returns : goal.returns
returns c =
    let i = interface_of c.args.interface.now in
    let name = ap (λ (n : List ℕ). message_number i n) (sym c.deref.ensures.value) in
    record {
      exact =
          subst (λ (a : Result TheCall ValueFault). Answers c.fitting_call.result a)
          (sym (known i c.args.text.name.bytes.items (map datum_of c.args.text.args.items) c.in-Some.msg.0 (name ∙ sym c.in-Some.ensures.same)))
          c.fitting_call.ensures.exact;
    }
