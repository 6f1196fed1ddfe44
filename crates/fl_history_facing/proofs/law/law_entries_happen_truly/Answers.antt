use Rattle.fl_history_facing.proofs.Happening.{entries_happen_truly}
use Rattle.fl_history_facing.proofs.law.law_entries_happen_truly.Goals as goal

pub returns : goal.returns
returns c = record { happen = entries_happen_truly }
