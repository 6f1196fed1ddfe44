use Rattle.fl_monitor.proofs.Taken.{refused_for_one}
use Rattle.fl_monitor.proofs.law.law_one_reason.Goals as goal

pub returns : goal.returns
returns c = record { one = refused_for_one }
