use Rattle.fl_cores_laws.proofs.Standing.{planned_stand}
use Rattle.fl_cores_laws.proofs.law_honesty.law_planned_ends_stand.Goals as goal

pub returns : goal.returns
returns c = record { stand = planned_stand c.law_logs_flow.ensures.flows c.law_rules_are_set.ensures.set }
