use Rattle.fl_history_sides.proofs.Near.{rings_are_near}
use Rattle.fl_history_sides.proofs.law.law_rings_are_near.Goals as goal

pub returns : goal.returns
returns c = record { near = rings_are_near }
