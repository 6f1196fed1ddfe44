use Rattle.fl_cores_laws.proofs.Runs.{runs_are_honest}
use Rattle.fl_cores_laws.proofs.law_honesty.law_runs_are_honest.Goals as goal

pub returns : goal.returns
returns c = record { honest = runs_are_honest c.law_reports_are_honest.ensures.reports c.law_opened_is_honest.ensures.honest c.law_off_link_is_honest.ensures.honest }
