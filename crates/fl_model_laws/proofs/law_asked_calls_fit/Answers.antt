use Rattle.fl_model_laws.proofs.AskedCalls.{asked_calls_fit}
use Rattle.fl_model_laws.proofs.law_asked_calls_fit.Goals as goal

pub returns : goal.returns
returns c = record { fit = asked_calls_fit }
