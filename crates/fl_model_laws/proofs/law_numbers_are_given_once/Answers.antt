use Rattle.fl_model_laws.proofs.SoundSteps.{numbers_given_once}
use Rattle.fl_model_laws.proofs.law_numbers_are_given_once.Goals as goal

pub returns : goal.returns
returns c = record { once = numbers_given_once }
