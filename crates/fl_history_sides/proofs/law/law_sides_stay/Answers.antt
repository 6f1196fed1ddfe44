use Rattle.fl_history_sides.proofs.Laws.{sides_stay}
use Rattle.fl_history_sides.proofs.law.law_sides_stay.Goals as goal

pub returns : goal.returns
returns c = record { stay = sides_stay }
