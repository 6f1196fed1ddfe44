use Rattle.fl_history_runs.proofs.Turns.{runs_are_shown}
use Rattle.fl_history_runs.proofs.law.law_runs_are_shown.Goals as goal

pub returns : goal.returns
returns c = record { shown = runs_are_shown }
