use Rattle.fl_cores_laws.proofs.OffLinks.{reports}
use Rattle.fl_cores_laws.proofs.law_honesty.law_reports_are_honest.Goals as goal

pub returns : goal.returns
returns c = record { reports = reports }
