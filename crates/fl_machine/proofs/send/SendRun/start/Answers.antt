use Rattle.std.proofs.Common.{◌∙◌, ap, true}
use Rattle.fl_stub.specs.Frames.{block_of}
use Rattle.fl_stub.proofs.Giving.{turns_into_given}
use Rattle.fl_machine.specs.Sending.{frags_holding}
use Rattle.fl_machine.proofs.Fragments.{first_is_location, starts}
use Rattle.fl_machine.proofs.send.SendRun.start.Goals as goal

pub settle-requires : goal.settle-requires
settle-requires c =
    first_is_location c.args.code.now.column c.args.code.now.ops c.ops.result.now c.deref.result.now c.new-cursor.result c.requires c.ops.ensures.ops c.ops.ensures.structure (c.new-cursor.ensures c.deref.result.now)

pub returns-clause-given : goal.returns-clause-given
returns-clause-given c =
    starts c.args.code.now.ops c.ops.result.now c.args.tape.items c.deref.result.now c.new-cursor.result c.settle.new.self c.args.msg.0 c.args.circuit.0
    c.ops.ensures.ops c.deref.ensures.value (c.new-cursor.ensures c.args.tape.items) c.settle.ensures.bytes

pub returns-clause-meant : goal.returns-clause-meant
returns-clause-meant c bytes t =
    starts c.args.code.now.ops c.ops.result.now c.args.tape.items c.deref.result.now c.new-cursor.result c.settle.new.self c.args.msg.0 c.args.circuit.0
    c.ops.ensures.ops c.deref.ensures.value (c.new-cursor.ensures c.args.tape.items) c.settle.ensures.bytes
    ∙ ap (frags_holding true c.args.msg.0 c.args.circuit.0) (turns_into_given (block_of c.args.code.now.ops) c.args.tape.items bytes t)
