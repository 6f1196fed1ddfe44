use Rattle.fl_history_facing.proofs.Sides.{own_steps_show_sides}
use Rattle.fl_history_facing.proofs.law.law_own_steps_show_sides.Goals as goal

pub returns : goal.returns
returns c = record { own = own_steps_show_sides }
