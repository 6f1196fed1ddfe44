use Rattle.fl_cores_laws.proofs.ReasonsAll.{progresses_tell, for_reason}
use Rattle.fl_cores_laws.proofs.law_honesty.law_progresses_tell_reasons.Goals as goal

pub returns : goal.returns
returns c = record {
  tell = progresses_tell c.law_rings_conserve.ensures.conserve c.law_circuits_join.ensures.prefix c.law_cores_reason.ensures.reason;
  reason = for_reason;
}
