use Rattle.fl_machine.proofs.Turns.{aligned}
use Rattle.fl_machine.proofs.cursor.SendCursor.align.Goals as goal

pub returns : goal.returns
returns c = aligned c.args.ops.now c.args.tape.now c.args.self.now c.give.new.self c.requires.op c.requires.location c.requires.idle (c.give.ensures.location c.args.tape.now)
