use Rattle.fl_stub.specs.Rests.{steps_left}
use Rattle.fl_machine.specs.Taking.{Passes, rest_of}
use Rattle.fl_machine.proofs.intake.RecvCursor.settle.Given as goal

abbrev pub invariant-loop : goal.invariant-loop
invariant-loop l = Passes l.ops l.fn.self l.self

abbrev pub decreases-loop : goal.decreases-loop
decreases-loop l = steps_left (rest_of l.ops l.self l.self.phase)
