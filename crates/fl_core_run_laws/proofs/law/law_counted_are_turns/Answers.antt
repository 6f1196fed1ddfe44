use Rattle.fl_core_run.specs.Run.{ways}
use Rattle.fl_core_run.proofs.Counted.{turns_of}
use Rattle.fl_core_run_laws.proofs.law.law_counted_are_turns.Goals as goal

pub returns : goal.returns
returns g c = record { turns = turns_of (ways g.S.PutSide.puts g.S.TakeSide.takes g.S.TakeSide.front) }
