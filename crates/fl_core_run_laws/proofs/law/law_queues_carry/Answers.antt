use Rattle.fl_core_run.specs.Run.{ways}
use Rattle.fl_core_run_laws.proofs.Queueing.{queues_carry}
use Rattle.fl_core_run_laws.proofs.law.law_queues_carry.Goals as goal

pub returns : goal.returns
returns g c = record {
  queues = queues_carry (ways g.S.PutSide.puts g.S.TakeSide.takes g.S.TakeSide.front) c.law_queue_conserves.ensures.conserves;
}
