use Rattle.fl_c_operations.proofs.HeldSends.{held_sends}
use Rattle.fl_c_operations.proofs.sending.held_sent.Goals as goal

pub returns : goal.returns
returns c = record { sent = held_sends c.transmitting_sent.ensures.sent c.looked_sent.ensures.sent c.calls_sent.ensures.sent c.unread_sent.ensures.sent }
