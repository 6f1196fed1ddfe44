use Rattle.fl_cores_laws.proofs.ReasonsAll.{cores_reason}
use Rattle.fl_cores_laws.proofs.law_honesty.law_cores_reason.Goals as goal

pub returns : goal.returns
returns c = record { reason = cores_reason c.law_on_another_circuit.ensures.on }
