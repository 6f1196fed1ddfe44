use Rattle.fl_monitor.proofs.Outcomes.{one_outcome}
use Rattle.fl_monitor.proofs.law.law_one_outcome.Goals as goal

pub returns : goal.returns
returns c = record { one = one_outcome }
