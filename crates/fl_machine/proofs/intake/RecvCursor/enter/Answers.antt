use Rattle.std.proofs.Common.{◌<◌, length, arith}
use Rattle.fl_machine.proofs.Turns.{loops_pushed}
use Rattle.fl_machine.proofs.intake.RecvCursor.enter.Goals as goal

pub returns-clause-loops : goal.returns-clause-loops
returns-clause-loops c =
    let inside : c.args.self.now.depth < length c.args.self.now.loops = omega (arith, c.requires) in
    loops_pushed c.args.self.now.loops c.args.self.now.depth (record { start = c.args.start; turns = c.args.turns }) inside
