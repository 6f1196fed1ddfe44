use Rattle.fl_monitor.proofs.Single.{says_no_other, says_what_is_written}
use Rattle.fl_monitor.proofs.law.law_one_message.Goals as goal

pub returns : goal.returns
returns c = record { one = says_no_other; written = says_what_is_written }
