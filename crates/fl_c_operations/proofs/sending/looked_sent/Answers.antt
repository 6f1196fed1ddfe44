use Rattle.fl_c_operations.proofs.HeldSends.{looked_sends}
use Rattle.fl_c_operations.proofs.sending.looked_sent.Goals as goal

pub returns : goal.returns
returns c = record { sent = looked_sends c.side_sent.ensures.sent }
