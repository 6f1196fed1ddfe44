use Rattle.fl_core_refines.proofs.SetUpStarting.{untouched_starts_fresh}
use Rattle.fl_core_refines.proofs.law_set_up.law_untouched_starts_fresh.Goals as goal

pub returns : goal.returns
returns c = record { fresh = untouched_starts_fresh }
