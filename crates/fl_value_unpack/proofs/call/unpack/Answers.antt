use Rattle.std.proofs.Common.{length, map, sym, ap, ◌∙◌}
use Rattle.std.specs.List.{zip}
use Rattle.std.proofs.lemmas.List.{length-map}
use Rattle.fl_interface.specs.Interface.{arg_type_of, message_of, interface_of}
use Rattle.fl_value_data.specs.Value.{datum_of}
use Rattle.fl_value_data.specs.Plan.{arranged}
use Rattle.fl_value_data.specs.Tape.{kind, values_of}
use Rattle.fl_value_data.proofs.Ranked.{seconds_arranged}
use Rattle.fl_value_data.proofs.Untaped.{message_at}
use Rattle.fl_value_unpack.proofs.Stands.{call_is}
use Rattle.fl_value_unpack.proofs.call.unpack.Goals as goal

pub returns : goal.returns
returns c =
    let plan = c.args.plan in
    let i = interface_of c.args.interface.now in
    let m = message_of c.in-Some.message.now in
    let types = map arg_type_of c.in-Some.message.now.args.items in
    let ds = map datum_of c.in_ok-args.args.items in
    let here = message_at c.args.interface.now.messages.items c.deref.result.now c.args.msg.0 c.from.result c.in-Some.message.now c.from.ensures c.deref.ensures.value c.in-Some.ensures.lookup.0 c.in-Some.ensures.lookup.1 in
    let one = rw c.deref-2.ensures.value at c.in_ok-args.ensures.only in
    let many = length-map c.in_ok-args.args.items datum_of ∙ c.in_ok-args.ensures.many ∙ ap length c.deref-2.ensures.value ∙ sym (length-map c.in-Some.message.now.args.items arg_type_of) in
    record {
      call = λ d h.
          call_is plan i m c.args.msg.0 c.args.tape.now (values_of (arranged kind plan (zip types ds))) ds c.in_ok-args._rest.now d here one many (sym (seconds_arranged plan types ds many)) h;
    }
