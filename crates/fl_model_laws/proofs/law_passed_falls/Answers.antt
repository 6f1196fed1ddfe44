use Rattle.fl_model_laws.proofs.SoundRuns.{sound_runs_fall}
use Rattle.fl_model_laws.proofs.SoundSteps.{runs_are_sound}
use Rattle.fl_model_laws.proofs.law_passed_falls.Goals as goal

pub returns : goal.returns
returns c = record { falls = sound_runs_fall runs_are_sound }
