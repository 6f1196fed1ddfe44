use Rattle.fl_model_laws.proofs.SoundSteps.{ever_once_both_ways}
use Rattle.fl_model_laws.proofs.law_numbers_are_once_both_ways.Goals as goal

pub returns : goal.returns
returns c = record { once = ever_once_both_ways }
