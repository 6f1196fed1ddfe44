use Rattle.std.proofs.Common.{rules}
use Rattle.fl_machine.proofs.recv.RecvState.undo.Goals as goal
use Rattle.fl_machine.proofs.recv.RecvState.undo.Goals.{then-before, else-before}

-- src/recv.rt:485:5
pub returns-clause-stored : goal.returns-clause-stored
returns-clause-stored c = elim c.if-before.branch [ then-before w ↦ search rules | else-before w ↦ search rules ]
