use Rattle.fl_model_laws.proofs.ListingLaws.{listed_have_ends}
use Rattle.fl_model_laws.proofs.law_listed_have_ends_in_sound_states.Goals as goal

pub returns : goal.returns
returns c = record { ends = listed_have_ends }
