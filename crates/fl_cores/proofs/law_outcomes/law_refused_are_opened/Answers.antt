use Rattle.fl_cores.proofs.CoresTold.{refused_opened}
use Rattle.fl_cores.proofs.law_outcomes.law_refused_are_opened.Goals as goal

pub returns : goal.returns
returns c = record { opened = refused_opened c.law_reports_are_of_runs.ensures.runs c.law_refused_do_nothing.ensures.opened }
