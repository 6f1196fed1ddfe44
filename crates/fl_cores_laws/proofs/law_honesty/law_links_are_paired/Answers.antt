use Rattle.fl_cores_laws.proofs.Wired.{are_paired}
use Rattle.fl_cores_laws.proofs.law_honesty.law_links_are_paired.Goals as goal

pub returns : goal.returns
returns c = record { paired = are_paired }
