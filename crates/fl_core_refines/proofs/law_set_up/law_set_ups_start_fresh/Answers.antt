use Rattle.fl_core_refines.proofs.SetUpStarting.{set_ups_start_fresh}
use Rattle.fl_core_refines.proofs.law_set_up.law_set_ups_start_fresh.Goals as goal

pub returns : goal.returns
returns c = record { fresh = set_ups_start_fresh }
