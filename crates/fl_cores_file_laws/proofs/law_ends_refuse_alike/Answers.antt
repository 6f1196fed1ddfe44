use Rattle.fl_cores_file_laws.proofs.AtEnds.{ends_refuse_alike}
use Rattle.fl_cores_file_laws.proofs.law_ends_refuse_alike.Goals as goal

pub returns : goal.returns
returns c = record { alike = ends_refuse_alike }
