use Rattle.fl_core_run_laws.proofs.Sending.{sent_made, sent_replies}
use Rattle.fl_core_run_laws.proofs.law.law_sent_by_rules.Goals as goal

pub returns : goal.returns
returns g = record { made = sent_made; replies = sent_replies }
