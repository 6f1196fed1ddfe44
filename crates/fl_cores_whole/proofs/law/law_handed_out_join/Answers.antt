use Rattle.fl_cores_whole.proofs.Begin.{handed_out_join}
use Rattle.fl_cores_whole.proofs.law.law_handed_out_join.Goals as goal

pub returns : goal.returns
returns c = record { join = handed_out_join }
