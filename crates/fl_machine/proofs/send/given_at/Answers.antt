use Rattle.std.proofs.Common.{◌≡◌, ◌<◌, Some, length, slice_get, sym, ◌∙◌, ap, arith}
use Rattle.fl_stub.specs.declared.op.Op.{Op}
use Rattle.fl_stub.specs.declared.op.Op.TheVariants.{Emit, Pad}
use Rattle.fl_machine.proofs.Emits.{straight_width, emit_given, zeros_given}
use Rattle.fl_machine.proofs.send.given_at.Goals as goal

pub low_bytes-requires : goal.low_bytes-requires
low_bytes-requires c =
    let there : slice_get c.args.ops.now c.args.place ≡ Some (Emit c.in-Emit.width) = sym c.op_at.ensures ∙ c.in-Some.is ∙ ap (λ (o : Op). Some o) c.in-Emit.is in
    straight_width c.args.ops.now c.args.tape.now c.args.place c.args.next c.args.filled c.in-Emit.width there c.requires.location

pub returns-else-next-tape-clause-given : goal.returns-else-next-tape-clause-given
returns-else-next-tape-clause-given c =
    let there : slice_get c.args.ops.now c.args.place ≡ Some (Emit c.in-Emit.width) = sym c.op_at.ensures ∙ c.in-Some.is ∙ ap (λ (o : Op). Some o) c.in-Emit.is in
    let inside : c.args.next < length c.args.tape.now = omega (arith, c.if-next-tape.false) in
    emit_given c.args.ops.now c.args.tape.now c.args.place c.args.next c.args.filled c.in-Emit.width c.low_bytes.result there inside c.low_bytes.ensures.bytes c.low_bytes.ensures.small c.requires.location

pub returns-in-Pad-clause-given : goal.returns-in-Pad-clause-given
returns-in-Pad-clause-given c =
    let there : slice_get c.args.ops.now c.args.place ≡ Some (Pad c.in-Pad.zeros) = sym c.op_at.ensures ∙ c.in-Some.is ∙ ap (λ (o : Op). Some o) c.in-Pad.is in
    zeros_given c.args.ops.now c.args.tape.now c.args.place c.args.next c.args.filled c.in-Pad.zeros there c.requires.location
