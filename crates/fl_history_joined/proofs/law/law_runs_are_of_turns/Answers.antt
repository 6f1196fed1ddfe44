use Rattle.fl_history_joined.proofs.Logging.{runs_are_of_turns}
use Rattle.fl_history_joined.proofs.law.law_runs_are_of_turns.Goals as goal

pub returns : goal.returns
returns c = record { runs = runs_are_of_turns }
