use Rattle.fl_model_laws.proofs.Start.{start_is_sound}
use Rattle.fl_model_laws.proofs.law_start_is_sound.Goals as goal

pub returns : goal.returns
returns c = record { sound = start_is_sound }
