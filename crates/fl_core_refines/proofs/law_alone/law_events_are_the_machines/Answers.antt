use Rattle.fl_core_run.specs.Run.{ways}
use Rattle.fl_core_refines.proofs.Calling.{calls_are, rules_are}
use Rattle.fl_core_refines.proofs.Writing.{writes_are}
use Rattle.fl_core_refines.proofs.AloneTurning.{turns_are}
use Rattle.fl_core_refines.proofs.law_alone.law_events_are_the_machines.Goals as goal

pub returns : goal.returns
returns g c = record {
  call = calls_are (ways g.S.PutSide.puts g.S.TakeSide.takes g.S.TakeSide.front) c.law_steps_agree.ensures.agree;
  rule = rules_are (ways g.S.PutSide.puts g.S.TakeSide.takes g.S.TakeSide.front) c.law_steps_agree.ensures.agree;
  write = writes_are (ways g.S.PutSide.puts g.S.TakeSide.takes g.S.TakeSide.front) c.law_steps_agree.ensures.agree;
  turn = turns_are (ways g.S.PutSide.puts g.S.TakeSide.takes g.S.TakeSide.front) c.law_steps_agree.ensures.agree;
}
