use Rattle.fl_history_rings.proofs.SideCalls.{sides_stay}
use Rattle.fl_history_rings.proofs.law.law_sides_stay.Goals as goal

pub returns : goal.returns
returns c = record { stay = sides_stay }
