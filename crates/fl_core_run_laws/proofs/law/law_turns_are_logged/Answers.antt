use Rattle.fl_core_run.specs.Run.{ways}
use Rattle.fl_core_run_laws.proofs.Logging.{turns_logged}
use Rattle.fl_core_run_laws.proofs.Handling.{progresses_tell}
use Rattle.fl_core_run_laws.proofs.law.law_turns_are_logged.Goals as goal

pub returns : goal.returns
returns g c = record {
  logged = turns_logged (ways g.S.PutSide.puts g.S.TakeSide.takes g.S.TakeSide.front);
  handled = progresses_tell (ways g.S.PutSide.puts g.S.TakeSide.takes g.S.TakeSide.front);
}
