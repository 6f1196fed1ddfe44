use Rattle.fl_cores_joined.proofs.Telling.{acks_are}
use Rattle.fl_cores_joined.proofs.Turning.{turns_are}
use Rattle.fl_cores_joined.proofs.Writing.{writes_are}
use Rattle.fl_cores_joined.proofs.law.law_ends_join.Goals as goal

pub returns : goal.returns
returns c = record {
  writes = writes_are c.law_steps_agree.ensures.agree;
  turns = turns_are c.law_steps_agree.ensures.agree;
  acks = acks_are c.law_steps_agree.ensures.agree;
}
