use Rattle.fl_cores_laws.proofs.RuledEnds.{rules_are_set}
use Rattle.fl_cores_laws.proofs.law_honesty.law_rules_are_set.Goals as goal

pub returns : goal.returns
returns c = record {
  set = rules_are_set c.law_logs_flow.ensures.flows c.law_turns_are_logged.ensures.handled c.law_jobs_are_made.ensures.made c.law_jobs_are_made.ensures.first;
}
