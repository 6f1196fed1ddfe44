use Rattle.fl_model_laws.proofs.Services.{step_keeps_services}
use Rattle.fl_model_laws.proofs.law_steps_keep_services.Goals as goal

pub returns : goal.returns
returns c = record { kept = step_keeps_services }
