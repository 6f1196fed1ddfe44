use Rattle.fl_model_laws.proofs.SoundRuns.{sound_runs_have_prefixes}
use Rattle.fl_model_laws.proofs.SoundSteps.{runs_are_sound}
use Rattle.fl_model_laws.proofs.law_handled_is_a_prefix.Goals as goal

pub returns : goal.returns
returns c = record { prefix = sound_runs_have_prefixes runs_are_sound }
