use Rattle.fl_cores_laws.proofs.ReasonsAll.{reasons_alone}
use Rattle.fl_cores_laws.proofs.law_honesty.law_reasons_alone.Goals as goal

pub returns : goal.returns
returns c = record { reasons = reasons_alone c.law_rings_conserve.ensures.conserve c.law_circuits_join.ensures.prefix c.law_cores_reason.ensures.reason }
