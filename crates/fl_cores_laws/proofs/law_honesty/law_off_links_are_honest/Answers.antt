use Rattle.fl_cores_laws.proofs.Runs.{off_links}
use Rattle.fl_cores_laws.proofs.law_honesty.law_off_links_are_honest.Goals as goal

pub returns : goal.returns
returns c = record { honest = off_links c.law_reports_are_honest.ensures.reports c.law_off_link_is_honest.ensures.honest }
