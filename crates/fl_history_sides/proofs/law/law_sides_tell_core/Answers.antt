use Rattle.fl_history_sides.proofs.Follow.{sides_tell_core}
use Rattle.fl_history_sides.proofs.law.law_sides_tell_core.Goals as goal

pub returns : goal.returns
returns c = record { tell = sides_tell_core }
