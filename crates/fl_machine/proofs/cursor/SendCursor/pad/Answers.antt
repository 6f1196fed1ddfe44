use Rattle.fl_machine.proofs.Turns.{padded, pad_fits}
use Rattle.fl_machine.proofs.cursor.SendCursor.pad.Goals as goal

pub give-requires-clause-width : goal.give-requires-clause-width
give-requires-clause-width c = (pad_fits c.args.ops.now c.args.tape.now c.args.self.now c.args.zeros c.requires.op c.requires.location).1

pub returns : goal.returns
returns c = padded c.args.ops.now c.args.tape.now c.args.self.now c.give.new.self c.args.zeros c.requires.op c.requires.location c.requires.idle (c.give.ensures.location c.args.tape.now)
