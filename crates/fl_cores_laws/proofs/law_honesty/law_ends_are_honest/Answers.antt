use Rattle.fl_cores_laws.proofs.Parties.{parties}
use Rattle.fl_cores_laws.proofs.law_honesty.law_ends_are_honest.Goals as goal

pub returns : goal.returns
returns c = record {
  ends = parties (record {
    handled = c.law_turns_are_logged.ensures.handled;
    made = c.law_jobs_are_made.ensures.made;
    first = c.law_jobs_are_made.ensures.first;
    agree = c.law_ends_agree.ensures.agree;
    sent_made = c.law_sent_by_rules.ensures.made;
    sent_replies = c.law_sent_by_rules.ensures.replies;
  });
}
