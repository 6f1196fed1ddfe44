use Rattle.fl_core_run.specs.Run.{ways}
use Rattle.fl_core_run_laws.proofs.Flowing.{flows}
use Rattle.fl_core_run_laws.proofs.law.law_logs_flow.Goals as goal

pub returns : goal.returns
returns g c = record { flows = flows (ways g.S.PutSide.puts g.S.TakeSide.takes g.S.TakeSide.front) c.law_on_another_circuit.ensures.on }
