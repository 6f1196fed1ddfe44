use Rattle.std.proofs.Common.{◌≡◌, ◌∙◌, ap, subst, sym, true, false, map, List, []}
use Rattle.std.specs.Prelude.{slice_get}
use Rattle.std.specs.List.{zip}
use Rattle.std.proofs.lemmas.Result.{on_ok_weaker}
use Rattle.fl_interface.specs.Interface.{TheArgType, interface_of}
use Rattle.fl_value_data.specs.Value.{datum_of, call_of}
use Rattle.fl_value_data.specs.declared.value.Value.{Value}
use Rattle.fl_value_data.specs.Fits.{are_arguments}
use Rattle.fl_value_data.specs.Plan.{arranged}
use Rattle.fl_value_data.specs.Tape.{kind}
use Rattle.fl_layout.specs.Leaves.{Leaf, arguments_onto, argument_types}
use Rattle.fl_wire.specs.Payload.{payload_bytes}
use Rattle.fl_wire.proofs.Arguments.{arguments_fit}
use Rattle.fl_wire.proofs.encode.payload_into.Goals as goal

pub put_arguments-requires : goal.put_arguments-requires
put_arguments-requires c =
    let P : List TheArgType → Type 0 = λ ts. are_arguments ts (map datum_of c.deref.result.now) ≡ true in
    let Q : List Value → Type 0 = λ vs. are_arguments (argument_types (interface_of c.args.interface.now) c.args.call.now.msg.0) (map datum_of vs) ≡ true in
    record {
      fit = subst P (sym c.arguments_of.ensures.types) (subst Q (sym c.deref.ensures.value)
          (arguments_fit (slice_get (interface_of c.args.interface.now).messages c.args.call.now.msg.0) (map datum_of c.args.call.now.args.items) c.requires.fits));
      empty = c.clear.ensures.items;
    }

pub returns : goal.returns
returns c =
    let i = interface_of c.args.interface.now in
    let call = call_of c.args.call.now in
    let leaves_from : List TheArgType → List Value → List Leaf = λ ts vs. arguments_onto false (arranged kind c.args.plan (zip ts (map datum_of vs))) [] in
    record {
      payload = on_ok_weaker c.put_arguments.result
          (λ done. done
          ∙ ap payload_bytes (ap (λ (ts : List TheArgType). leaves_from ts c.deref.result.now) c.arguments_of.ensures.types
          ∙ ap (λ (vs : List Value). leaves_from (argument_types i call.msg) vs) c.deref.ensures.value))
          c.put_arguments.ensures.ok;
    }
