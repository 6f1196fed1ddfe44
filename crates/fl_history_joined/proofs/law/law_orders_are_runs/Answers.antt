use Rattle.fl_history_joined.proofs.Steps.{orders_are_runs}
use Rattle.fl_history_joined.proofs.law.law_orders_are_runs.Goals as goal

pub returns : goal.returns
returns c = record { runs = orders_are_runs c.law_steps_interleave.ensures.followed }
