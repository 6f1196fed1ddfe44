use Rattle.fl_check.proofs.FirstFaults.{memory_tells}
use Rattle.fl_check.proofs.declared.Declared.add_directed.Goals as goal

pub returns-clause-fault : goal.returns-clause-fault
returns-clause-fault c = memory_tells c.push.result _ c.push.ensures.memory
