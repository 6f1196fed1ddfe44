use Rattle.fl_model_laws.proofs.PlacesStep.{step_keeps_links}
use Rattle.fl_model_laws.proofs.law_steps_keep_links.Goals as goal

pub returns : goal.returns
returns c = record { kept = step_keeps_links }
