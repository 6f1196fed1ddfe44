use Rattle.fl_core_run.specs.Run.{ways}
use Rattle.fl_core_run_laws.proofs.Ruling.{rules_come_first}
use Rattle.fl_core_run_laws.proofs.law.law_rules_come_first.Goals as goal

pub returns : goal.returns
returns g c = record { rules = rules_come_first (ways g.S.PutSide.puts g.S.TakeSide.takes g.S.TakeSide.front) }
