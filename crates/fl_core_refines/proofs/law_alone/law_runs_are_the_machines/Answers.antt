use Rattle.fl_core_run.specs.Run.{ways}
use Rattle.fl_core_refines.proofs.Counting.{counts_are, runs_are}
use Rattle.fl_core_refines.proofs.law_alone.law_runs_are_the_machines.Goals as goal

pub returns : goal.returns
returns g c = record {
  counts = counts_are (ways g.S.PutSide.puts g.S.TakeSide.takes g.S.TakeSide.front) c.law_steps_agree.ensures.agree;
  runs = runs_are (ways g.S.PutSide.puts g.S.TakeSide.takes g.S.TakeSide.front) c.law_steps_agree.ensures.agree;
}
