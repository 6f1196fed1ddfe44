use Rattle.fl_monitor.proofs.Single.{one_fragment, none_is_part}
use Rattle.fl_monitor.proofs.law.law_one_fragment.Goals as goal

pub returns : goal.returns
returns c = record { one = one_fragment; none = none_is_part }
