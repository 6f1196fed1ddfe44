use Rattle.fl_cores_laws.proofs.Runs.{off_link}
use Rattle.fl_cores_laws.proofs.law_honesty.law_off_link_is_honest.Goals as goal

pub returns : goal.returns
returns c = record {
  honest = off_link (record {
    flow = c.law_logs_flow.ensures.flows;
    rules_first = c.law_rules_come_first.ensures.rules;
    off_links = c.law_ends_agree.ensures.off_links;
    queues = c.law_queue_conserves.ensures.conserves;
    rings = c.law_rings_conserve.ensures.conserve;
  }) c.law_ends_are_honest.ensures.ends;
}
