use Rattle.fl_world_events.proofs.Queued.{queue_stays, lists}
use Rattle.fl_world_events.proofs.by_queues.register.Goals as goal

pub returns : goal.returns
returns c = record {
  lists = lists _ _ _ _ _ _ c.register-answer.ensures.registers;
  queue = queue_stays _ _ _ _ _ _ c.register-answer.ensures.registers;
}
