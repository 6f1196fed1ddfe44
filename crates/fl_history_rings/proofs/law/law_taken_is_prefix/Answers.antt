use Rattle.fl_history_rings.proofs.Laws.{taken_is_prefix}
use Rattle.fl_history_rings.proofs.law.law_taken_is_prefix.Goals as goal

pub returns : goal.returns
returns c = record { prefix = taken_is_prefix }
