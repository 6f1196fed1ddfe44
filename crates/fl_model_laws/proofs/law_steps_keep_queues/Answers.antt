use Rattle.fl_model_laws.proofs.Queues.{step_keeps_queues}
use Rattle.fl_model_laws.proofs.law_steps_keep_queues.Goals as goal

pub returns : goal.returns
returns c = record { kept = step_keeps_queues }
