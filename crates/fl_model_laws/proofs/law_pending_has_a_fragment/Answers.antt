use Rattle.fl_model_laws.proofs.ListingLaws.{pending_has_a_fragment}
use Rattle.fl_model_laws.proofs.SoundSteps.{runs_are_sound}
use Rattle.fl_model_laws.proofs.law_pending_has_a_fragment.Goals as goal

pub returns : goal.returns
returns c = record { has = pending_has_a_fragment runs_are_sound }
