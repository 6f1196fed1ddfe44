use Rattle.fl_model_laws.proofs.FitsStep.{step_fits}
use Rattle.fl_model_laws.proofs.law_steps_keep_fitting.Goals as goal

pub returns : goal.returns
returns c = record { kept = step_fits }
