use Rattle.fl_cores_fork.proofs.Boards.{board_sends}
use Rattle.fl_cores_fork.proofs.crossing.board_sent.Goals as goal

pub returns : goal.returns
returns c = record {
  sent = board_sends c.end_sent.ensures.sent c.calls_sent.ensures.sent;
}
