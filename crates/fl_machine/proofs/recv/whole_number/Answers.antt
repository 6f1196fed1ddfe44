use Rattle.std.proofs.Common.{◌≡◌, true, ap, sym, ◌∙◌}
use Rattle.std.specs.Prelude.{slice_get}
use Rattle.fl_interface.specs.Interface.{TheInterface, interface_of}
use Rattle.fl_value_data.specs.Value.{call_of}
use Rattle.fl_compact_calls.specs.Plain.{is_plain_message}
use Rattle.fl_machine.proofs.NumberCalls.{number_called}
use Rattle.fl_machine.proofs.recv.whole_number.Goals as goal

pub returns-clause-fits : goal.returns-clause-fits
returns-clause-fits c =
    let p = c.args.program.now in
    let i = interface_of p.compiled.value.plans.interface in
    let plain : is_plain_message (slice_get i.messages c.args.ended.msg.0) ≡ true
    = ap (λ (j : TheInterface). is_plain_message (slice_get j.messages c.args.ended.msg.0)) (sym c.interface.ensures.interface) ∙ sym c.if-not-has_plain_number.ensures.same in
    (number_called p.plan i c.args.tape.now c.args.ended c.in-Some.number.now (call_of c.of_number.result) p.compiled.value.plans.interface.within p.words c.requires.ended plain (sym c.in-Some.ensures.value) c.of_number.ensures.call).fits

pub returns-clause-means : goal.returns-clause-means
returns-clause-means c =
    let p = c.args.program.now in
    let i = interface_of p.compiled.value.plans.interface in
    let plain : is_plain_message (slice_get i.messages c.args.ended.msg.0) ≡ true
    = ap (λ (j : TheInterface). is_plain_message (slice_get j.messages c.args.ended.msg.0)) (sym c.interface.ensures.interface) ∙ sym c.if-not-has_plain_number.ensures.same in
    (number_called p.plan i c.args.tape.now c.args.ended c.in-Some.number.now (call_of c.of_number.result) p.compiled.value.plans.interface.within p.words c.requires.ended plain (sym c.in-Some.ensures.value) c.of_number.ensures.call).means
