use Rattle.fl_model_laws.proofs.EndsStanding.{step_keeps_ends}
use Rattle.fl_model_laws.proofs.law_steps_keep_ends.Goals as goal

pub returns : goal.returns
returns c = record { kept = step_keeps_ends }
