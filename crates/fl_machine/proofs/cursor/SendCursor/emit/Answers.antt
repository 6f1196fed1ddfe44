use Rattle.fl_machine.proofs.Turns.{emitted, emit_fits, width_small}
use Rattle.fl_machine.proofs.cursor.SendCursor.emit.Goals as goal

pub low_bytes-requires : goal.low_bytes-requires
low_bytes-requires c = emit_fits c.args.ops.now c.args.tape.now c.args.self.now c.args.width c.requires.op c.requires.location

pub give-requires-clause-width : goal.give-requires-clause-width
give-requires-clause-width c = width_small c.args.width (emit_fits c.args.ops.now c.args.tape.now c.args.self.now c.args.width c.requires.op c.requires.location)

pub returns : goal.returns
returns c =
    emitted c.args.ops.now c.args.tape.now c.args.self.now c.take_number-number.new.self c.give.new.self c.args.width c.take_number-number.result c.low_bytes.result
    c.requires.op c.requires.location c.requires.idle c.take_number-number.ensures.number c.take_number-number.ensures.location c.take_number-number.ensures.rest
    c.low_bytes.ensures.bytes c.low_bytes.ensures.small (c.give.ensures.location c.args.tape.now)
