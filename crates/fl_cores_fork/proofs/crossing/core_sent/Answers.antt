use Rattle.fl_cores_fork.proofs.Boards.{core_sends}
use Rattle.fl_cores_fork.proofs.crossing.core_sent.Goals as goal

pub returns : goal.returns
returns c = record {
  sent = core_sends c.board_sent.ensures.sent c.monitor_sent.ensures.sent c.queue_sent.ensures.sent;
}
