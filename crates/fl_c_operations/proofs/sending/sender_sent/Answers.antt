use Rattle.fl_c_operations.proofs.RunSends.{sender_sends}
use Rattle.fl_c_operations.proofs.sending.sender_sent.Goals as goal

pub returns : goal.returns
returns c = record { sent = sender_sends c.program_sent.ensures.sent c.send_run_sent.ensures.sent }
