use Rattle.fl_history_sides.proofs.Laws.{one_tells_all}
use Rattle.fl_history_sides.proofs.law.law_one_tells_all.Goals as goal

pub returns : goal.returns
returns c = record { tells = one_tells_all }
