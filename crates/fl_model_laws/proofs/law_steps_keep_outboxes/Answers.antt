use Rattle.fl_model_laws.proofs.Outboxes.{step_keeps_outboxes}
use Rattle.fl_model_laws.proofs.law_steps_keep_outboxes.Goals as goal

pub returns : goal.returns
returns c = record { kept = step_keeps_outboxes }
