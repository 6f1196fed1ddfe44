use Rattle.fl_model_laws.proofs.SoundSteps.{ever_fits}
use Rattle.fl_model_laws.proofs.law_calls_ever_fit.Goals as goal

pub returns : goal.returns
returns c = record { fit = ever_fits }
