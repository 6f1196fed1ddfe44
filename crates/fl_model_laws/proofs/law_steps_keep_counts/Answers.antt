use Rattle.fl_model_laws.proofs.RingsStep.{step_keeps_counts}
use Rattle.fl_model_laws.proofs.law_steps_keep_counts.Goals as goal

pub returns : goal.returns
returns c = record { kept = step_keeps_counts }
