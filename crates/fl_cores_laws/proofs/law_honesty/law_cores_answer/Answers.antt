use Rattle.fl_cores_laws.proofs.Opened.{cores_answer}
use Rattle.fl_cores_laws.proofs.law_honesty.law_cores_answer.Goals as goal

pub returns : goal.returns
returns c = record { answer = cores_answer c.law_on_another_circuit.ensures.on }
