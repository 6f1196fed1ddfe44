use Rattle.fl_cores_fork.proofs.Sending.{core_thread_field, core_thread_sends}
use Rattle.fl_cores_fork.proofs.crossing.core_thread_sent.Goals as goal

pub returns : goal.returns
returns c = record {
  sent = core_thread_sends c.running_sent.ensures.sent;
  part = core_thread_field c.running_sent.ensures.sent;
}
