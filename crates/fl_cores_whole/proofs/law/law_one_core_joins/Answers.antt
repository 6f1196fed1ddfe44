use Rattle.fl_cores_whole.proofs.One.{one_core_joins}
use Rattle.fl_cores_whole.proofs.law.law_one_core_joins.Goals as goal

pub returns : goal.returns
returns c = record { one = one_core_joins }
