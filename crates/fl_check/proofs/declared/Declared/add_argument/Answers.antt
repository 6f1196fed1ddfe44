use Rattle.fl_check.proofs.FirstFaults.{err_of, memory_tells, ok_by}
use Rattle.fl_check.proofs.declared.Declared.add_argument.Goals as goal

pub returns-in_err-checked-clause-fault : goal.returns-in_err-checked-clause-fault
returns-in_err-checked-clause-fault c =
    err_of c.from_residual.result c.in_err-checked.field-0.0 _ c.from_residual.ensures.1 (rw c.len.ensures at c.in_err-checked.ensures.fault)

pub returns-clause-fault : goal.returns-clause-fault
returns-clause-fault c = memory_tells c.push.result _ c.push.ensures.memory

pub returns-clause-sound : goal.returns-clause-sound
returns-clause-sound c = ok_by c.push.result _ (rw c.len.ensures at c.in_ok-checked.ensures.sound)
