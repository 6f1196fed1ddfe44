use Rattle.fl_model_laws.proofs.SoundSteps.{steps_are_sound}
use Rattle.fl_model_laws.proofs.law_steps_are_sound.Goals as goal

pub returns : goal.returns
returns c = record { sound = steps_are_sound }
