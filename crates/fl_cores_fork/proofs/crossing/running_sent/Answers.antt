use Rattle.fl_cores_fork.proofs.Sending.{running_sends}
use Rattle.fl_cores_fork.proofs.crossing.running_sent.Goals as goal

pub returns : goal.returns
returns c = record {
  sent = running_sends c.core_sent.ensures.sent c.sides_sent.ensures.sent c.queue_sent.ensures.sent c.progress_sent.ensures.sent c.names_sent.ensures.sent
      c.program_sent.ensures.sent;
}
