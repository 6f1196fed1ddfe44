use Rattle.fl_model_laws.proofs.SoundRuns.{sound_runs_are_counted}
use Rattle.fl_model_laws.proofs.SoundSteps.{runs_are_sound}
use Rattle.fl_model_laws.proofs.law_handled_is_counted.Goals as goal

pub returns : goal.returns
returns c = record { counted = sound_runs_are_counted runs_are_sound }
