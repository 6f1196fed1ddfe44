use Rattle.fl_model_laws.proofs.ListingLaws.{channels_are_once}
use Rattle.fl_model_laws.proofs.SoundSteps.{runs_are_sound}
use Rattle.fl_model_laws.proofs.law_channels_are_once.Goals as goal

pub returns : goal.returns
returns c = record { once = channels_are_once runs_are_sound }
