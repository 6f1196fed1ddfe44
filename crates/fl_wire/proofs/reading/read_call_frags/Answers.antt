use Rattle.std.proofs.Common.{◌≡◌, ◌∙◌, ap, map, Some, refl}
use Rattle.std.proofs.lemmas.Bool.{lt-ltb, le-ltb}
use Rattle.fl_interface.specs.Interface.{interface_of, arg_type_of}
use Rattle.fl_value_data.specs.Value.{datum_of}
use Rattle.fl_layout.specs.Leaves.{argument_types}
use Rattle.fl_layout.specs.Places.{count}
use Rattle.fl_wire.proofs.Readings.{same_call}
use Rattle.fl_wire.proofs.Decoding.{prefix_message}
use Rattle.fl_wire.proofs.Prefixes.{prefix_read, prefix_stop}
use Rattle.fl_wire.proofs.reading.read_call_frags.Goals as goal

pub returns-in_ok-had_memory-in-Err : goal.returns-in_ok-had_memory-in-Err
returns-in_ok-had_memory-in-Err c = record {
  read = λ call k fits small some within are.
      let i = interface_of c.args.interface.now in
      let msg : c.msg-msg.result.0 ≡ call.msg = c.msg-msg.ensures ∙ prefix_message c.args.plan i call k c.args.frags.now c.in-Some.first.now within are some small c.in-Some.ensures.value in
      let types = c.arguments_of-types.ensures.types ∙ ap (argument_types i) msg in
      let less = prefix_stop c.args.plan i call k c.args.frags.now (map arg_type_of c.arguments_of-types.result.now) c.in-Err.stop fits within are types c.in_ok-had_memory-in-Err.ensures.had c.in-Err.ensures.stop in
      rw (lt-ltb k (count c.args.plan i call) less) refl;
}

pub returns-in-Ok : goal.returns-in-Ok
returns-in-Ok c = record {
  read = λ call k fits small some within are.
      let i = interface_of c.args.interface.now in
      let msg : c.msg-msg.result.0 ≡ call.msg = c.msg-msg.ensures ∙ prefix_message c.args.plan i call k c.args.frags.now c.in-Some.first.now within are some small c.in-Some.ensures.value in
      let types = c.arguments_of-types.ensures.types ∙ ap (argument_types i) msg in
      let (values, all) = prefix_read c.args.plan i call k c.args.frags.now (map arg_type_of c.arguments_of-types.result.now) (map datum_of c.in-Ok.args.items) c.in-Ok._end fits some within are types c.in-Ok.ensures.within c.in-Ok.ensures.read in
      rw (le-ltb k (count c.args.plan i call) all) (ap Some (same_call _ call msg values));
}
