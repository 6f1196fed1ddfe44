use Rattle.fl_cores.proofs.CoresRun.{runs_of}
use Rattle.fl_cores.proofs.law_outcomes.law_reports_are_of_runs.Goals as goal

pub returns : goal.returns
returns c = record { runs = runs_of c.law_set_ups_start_fresh.ensures.fresh c.law_tables_tell.ensures.heard }
