use Rattle.fl_model_laws.proofs.SoundSteps.{runs_are_sound}
use Rattle.fl_model_laws.proofs.law_runs_are_sound.Goals as goal

pub returns : goal.returns
returns c = record { sound = runs_are_sound }
