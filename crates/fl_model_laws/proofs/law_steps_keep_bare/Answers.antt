use Rattle.fl_model_laws.proofs.Bare.{step_keeps_bare}
use Rattle.fl_model_laws.proofs.law_steps_keep_bare.Goals as goal

pub returns : goal.returns
returns c = record { kept = step_keeps_bare }
