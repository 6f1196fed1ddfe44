use Rattle.fl_cores_laws.proofs.Circuits.{circuits}
use Rattle.fl_cores_laws.proofs.law_honesty.law_circuits_are_honest.Goals as goal

pub returns : goal.returns
returns c =
    record {
      honest = circuits (record {
        flow = c.law_logs_flow.ensures.flows;
        rules_first = c.law_rules_come_first.ensures.rules;
        off_links = c.law_ends_agree.ensures.off_links;
        queues = c.law_queue_conserves.ensures.conserves;
        rings = c.law_rings_conserve.ensures.conserve;
      }) (record {
        handled = c.law_turns_are_logged.ensures.handled;
        made = c.law_jobs_are_made.ensures.made;
        first = c.law_jobs_are_made.ensures.first;
        agree = c.law_ends_agree.ensures.agree;
        sent_made = c.law_sent_by_rules.ensures.made;
        sent_replies = c.law_sent_by_rules.ensures.replies;
      }) c.law_circuits_join.ensures.prefix c.law_ends_are_honest.ensures.ends;
    }
