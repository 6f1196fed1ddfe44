use Rattle.fl_model_laws.proofs.WritesTold.{writes_understand}
use Rattle.fl_model_laws.proofs.law_writes_are_understood.Goals as goal

pub returns : goal.returns
returns c = record { understood = writes_understand }
