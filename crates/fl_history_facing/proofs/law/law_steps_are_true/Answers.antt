use Rattle.fl_history_facing.proofs.Truth.{steps_are_true}
use Rattle.fl_history_facing.proofs.law.law_steps_are_true.Goals as goal

pub returns : goal.returns
returns c = record { true_steps = steps_are_true }
