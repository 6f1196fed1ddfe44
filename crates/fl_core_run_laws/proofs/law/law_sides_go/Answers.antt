use Rattle.fl_core_run.specs.Run.{ways}
use Rattle.fl_core_run_laws.proofs.Looking.{logs_look}
use Rattle.fl_core_run_laws.proofs.law.law_sides_go.Goals as goal

pub returns : goal.returns
returns g c = record { goes = logs_look (ways g.S.PutSide.puts g.S.TakeSide.takes g.S.TakeSide.front) }
