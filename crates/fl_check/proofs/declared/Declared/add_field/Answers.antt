use Rattle.fl_check.proofs.FirstFaults.{err_of, memory_tells, ok_by, first_sound}
use Rattle.fl_check.proofs.Looks.{err_after, call_after}
use Rattle.fl_check.proofs.declared.Declared.add_field.Goals as goal

pub returns-in_err-measured-clause-fault : goal.returns-in_err-measured-clause-fault
returns-in_err-measured-clause-fault c = err_of c.from_residual.result c.in_err-measured.field-0.0 _ c.from_residual.ensures.1 c.in_err-measured.ensures.fault

pub returns-clause-fault : goal.returns-clause-fault
returns-clause-fault c = memory_tells c.push.result _ c.push.ensures.memory

pub returns-clause-sound : goal.returns-clause-sound
returns-clause-sound c = ok_by c.push.result _ c.in_ok-measured.ensures.sound

pub returns-in_err-measured-clause-memory : goal.returns-in_err-measured-clause-memory
returns-in_err-measured-clause-memory c = err_after c.from_residual.result c.in_err-measured.field-0.0 _ c.from_residual.ensures.1 c.in_err-measured.ensures.memory

pub returns-clause-memory : goal.returns-clause-memory
returns-clause-memory c = call_after c.push.result _ (first_sound _ c.in_ok-measured.ensures.sound)
