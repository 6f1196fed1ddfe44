use Rattle.std.proofs.Common.{◌≡◌, refl, ◌∙◌}
use Rattle.fl_value_data.specs.Value.{call_of}
use Rattle.fl_wire.specs.Payload.{payload_of}
use Rattle.fl_compile.specs.Programs.{program_of}
use Rattle.fl_endpoint.specs.declared.outgoing.CallBody.TheVariants.{Payload}
use Rattle.fl_endpoint.specs.Stored.{sent_as}
use Rattle.fl_endpoint.proofs.Outgoings.{queues_payload, same_payload}
use Rattle.fl_endpoint.proofs.outgoing.QueuedCall.of_payload.Goals as goal

pub returns : goal.returns
returns c =
    let p = program_of c.args.program.now in
    let msg = c.args.msg.0 in
    let d = call_of c.args.call.now in
    let bytes = c.in_ok-payload.payload in
    let own : bytes.items ≡ payload_of p.plan p.interface d = c.in_ok-payload.ensures.payload in
    let is : bytes.items ≡ payload_of p.plan p.interface (sent_as msg d) = own ∙ same_payload p.plan p.interface d msg c.requires.sends.types in
    record { queues = queues_payload p (sent_as msg d) bytes (record { body = Payload bytes; msg = c.args.msg }) refl refl is }
