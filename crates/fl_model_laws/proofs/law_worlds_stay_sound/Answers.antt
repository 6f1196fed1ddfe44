use Rattle.fl_model_laws.proofs.SoundSteps.{ever_sound}
use Rattle.fl_model_laws.proofs.law_worlds_stay_sound.Goals as goal

pub returns : goal.returns
returns c = record { sound = ever_sound }
