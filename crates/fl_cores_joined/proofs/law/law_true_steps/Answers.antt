use Rattle.fl_cores_joined.proofs.Rings.{puts_are, takes_are}
use Rattle.fl_cores_joined.proofs.Happening.{steps_happen}
use Rattle.fl_cores_joined.proofs.law.law_true_steps.Goals as goal

pub returns : goal.returns
returns c = record { rings = record { puts = puts_are; takes = takes_are }; happen = steps_happen }
