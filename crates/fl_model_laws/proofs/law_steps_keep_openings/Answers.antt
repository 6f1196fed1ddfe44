use Rattle.fl_model_laws.proofs.OpeningsLaw.{step_keeps_openings}
use Rattle.fl_model_laws.proofs.law_steps_keep_openings.Goals as goal

pub returns : goal.returns
returns c = record { kept = step_keeps_openings }
