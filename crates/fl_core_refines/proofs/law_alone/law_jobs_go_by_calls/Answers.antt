use Rattle.fl_core_refines.proofs.ByCalls.{go_by_calls}
use Rattle.fl_core_refines.proofs.law_alone.law_jobs_go_by_calls.Goals as goal

pub returns : goal.returns
returns c = record { calls = go_by_calls }
