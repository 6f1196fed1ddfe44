use Rattle.fl_monitor.proofs.Single.{says_alone}
use Rattle.fl_monitor.proofs.law.law_stands_alone.Goals as goal

pub returns : goal.returns
returns c = record { alone = says_alone }
