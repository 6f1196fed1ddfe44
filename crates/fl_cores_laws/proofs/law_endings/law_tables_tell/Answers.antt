use Rattle.fl_cores_laws.proofs.Heard.{tables_tell}
use Rattle.fl_cores_laws.proofs.law_endings.law_tables_tell.Goals as goal

pub returns : goal.returns
returns c = record { heard = tables_tell }
