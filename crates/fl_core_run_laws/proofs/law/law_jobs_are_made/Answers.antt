use Rattle.fl_core_run.specs.Run.{ways}
use Rattle.fl_core_run_laws.proofs.Doing.{makes_jobs, done_first}
use Rattle.fl_core_run_laws.proofs.law.law_jobs_are_made.Goals as goal

pub returns : goal.returns
returns g c = record {
  made = makes_jobs (ways g.S.PutSide.puts g.S.TakeSide.takes g.S.TakeSide.front);
  first = done_first (ways g.S.PutSide.puts g.S.TakeSide.takes g.S.TakeSide.front);
}
