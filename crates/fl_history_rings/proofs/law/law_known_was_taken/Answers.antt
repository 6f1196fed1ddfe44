use Rattle.fl_history_rings.proofs.Known.{known_taken}
use Rattle.fl_history_rings.proofs.law.law_known_was_taken.Goals as goal

pub returns : goal.returns
returns c = record { known = known_taken }
