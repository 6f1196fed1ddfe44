use Rattle.fl_cores_laws.proofs.Neighbours.{cores_name}
use Rattle.fl_cores_laws.proofs.law_honesty.law_cores_name.Goals as goal

pub returns : goal.returns
returns c = record { name = cores_name c.law_on_another_circuit.ensures.on }
