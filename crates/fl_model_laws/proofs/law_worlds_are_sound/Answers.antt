use Rattle.fl_model_laws.proofs.Start.{world_is_sound}
use Rattle.fl_model_laws.proofs.law_worlds_are_sound.Goals as goal

pub returns : goal.returns
returns c = record { sound = world_is_sound }
