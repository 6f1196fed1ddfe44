use Rattle.fl_model_laws.proofs.CallsKept.{step_keeps_calls}
use Rattle.fl_model_laws.proofs.law_steps_keep_calls.Goals as goal

pub returns : goal.returns
returns c = record { kept = step_keeps_calls }
