use Rattle.fl_history_rings.proofs.Laws.{puts_tell}
use Rattle.fl_history_rings.proofs.law.law_puts_tell_what_was_taken.Goals as goal

pub returns : goal.returns
returns c = record { tell = puts_tell }
