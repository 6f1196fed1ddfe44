use Rattle.fl_cores_joined.proofs.Linking.{says_are, tells_are}
use Rattle.fl_cores_joined.proofs.Looking.{looks_are}
use Rattle.fl_cores_joined.proofs.Arriving.{arrivals_are}
use Rattle.fl_cores_joined.proofs.Passing.{passes_are}
use Rattle.fl_cores_joined.proofs.Hearing.{hears_are}
use Rattle.fl_cores_joined.proofs.law.law_links_join.Goals as goal

pub returns : goal.returns
returns c = record {
  says = says_are c.law_steps_agree.ensures.agree;
  tells = tells_are c.law_steps_agree.ensures.agree;
  looks = looks_are c.law_steps_agree.ensures.agree;
  arrivals = arrivals_are c.law_steps_agree.ensures.agree;
  passes = passes_are c.law_steps_agree.ensures.agree;
  hears = hears_are c.law_steps_agree.ensures.agree;
}
