use Rattle.fl_cores.proofs.CoresTold.{keep_turns}
use Rattle.fl_cores.proofs.law_outcomes.law_reports_keep_turns.Goals as goal

pub returns : goal.returns
returns c = record { kept = keep_turns c.law_reports_are_of_runs.ensures.runs c.law_turns_are_kept.ensures.kept }
