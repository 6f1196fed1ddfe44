use Rattle.fl_cores_laws.proofs.AskedCores.{cores_ask}
use Rattle.fl_cores_laws.proofs.law_honesty.law_cores_ask.Goals as goal

pub returns : goal.returns
returns c = record { ask = cores_ask c.law_on_another_circuit.ensures.on }
