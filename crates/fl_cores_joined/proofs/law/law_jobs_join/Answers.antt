use Rattle.fl_cores_joined.proofs.Calling.{calls_are, rules_are}
use Rattle.fl_cores_joined.proofs.Opening.{opens_are}
use Rattle.fl_cores_joined.proofs.law.law_jobs_join.Goals as goal

pub returns : goal.returns
returns c = record {
  calls = calls_are c.law_steps_agree.ensures.agree;
  rules = rules_are c.law_steps_agree.ensures.agree;
  opens = opens_are c.law_steps_agree.ensures.agree;
}
