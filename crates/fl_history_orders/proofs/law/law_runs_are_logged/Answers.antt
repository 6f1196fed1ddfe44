use Rattle.fl_history_orders.proofs.Next.{runs_are_logged}
use Rattle.fl_history_orders.proofs.law.law_runs_are_logged.Goals as goal

pub returns : goal.returns
returns c = record { logged = runs_are_logged }
