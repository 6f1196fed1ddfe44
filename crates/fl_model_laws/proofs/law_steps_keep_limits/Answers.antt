use Rattle.fl_model_laws.proofs.Limits.{step_keeps_limits}
use Rattle.fl_model_laws.proofs.law_steps_keep_limits.Goals as goal

pub returns : goal.returns
returns c = record { kept = step_keeps_limits }
