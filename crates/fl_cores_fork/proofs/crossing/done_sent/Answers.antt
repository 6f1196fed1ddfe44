use Rattle.fl_cores_fork.proofs.Sending.{done_field, done_sends}
use Rattle.fl_cores_fork.proofs.crossing.done_sent.Goals as goal

pub returns : goal.returns
returns c = record {
  sent = done_sends c.running_sent.ensures.sent;
  part = done_field c.running_sent.ensures.sent;
}
