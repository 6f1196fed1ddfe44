use Rattle.fl_model_laws.proofs.SoundSteps.{ever_have_ends}
use Rattle.fl_model_laws.proofs.law_listed_ever_have_ends.Goals as goal

pub returns : goal.returns
returns c = record { ends = ever_have_ends }
