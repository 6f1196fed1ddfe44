use Rattle.fl_cores_laws.proofs.Spent.{spent_on, spent_out}
use Rattle.fl_cores_laws.proofs.law_honesty.law_spent_on_bindings.Goals as goal

pub returns : goal.returns
returns c = record {
  spent = spent_on c.law_rings_conserve.ensures.conserve c.law_circuits_join.ensures.prefix c.law_cores_reason.ensures.reason;
  others = spent_out c.law_rings_conserve.ensures.conserve c.law_circuits_join.ensures.prefix c.law_cores_reason.ensures.reason;
}
