use Rattle.fl_machine.proofs.Intakes.{settled_stands}
use Rattle.fl_machine.proofs.intake.RecvCursor.resume.Goals as goal

pub returns-then-self-eq0-clause-stands : goal.returns-then-self-eq0-clause-stands
returns-then-self-eq0-clause-stands c taken bytes s = settled_stands c.args.ops.now taken bytes c.args.self.now c.settle.new.self c.if-self-eq0.true c.settle.ensures.passes s
