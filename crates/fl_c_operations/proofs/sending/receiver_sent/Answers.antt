use Rattle.fl_c_operations.proofs.RunSends.{receiver_sends}
use Rattle.fl_c_operations.proofs.sending.receiver_sent.Goals as goal

pub returns : goal.returns
returns c = record { sent = receiver_sends c.receive_run_sent.ensures.sent }
