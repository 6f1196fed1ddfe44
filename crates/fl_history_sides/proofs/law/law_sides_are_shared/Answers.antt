use Rattle.fl_history_sides.proofs.Laws.{sides_are_shared}
use Rattle.fl_history_sides.proofs.law.law_sides_are_shared.Goals as goal

pub returns : goal.returns
returns c = record { shared = sides_are_shared }
