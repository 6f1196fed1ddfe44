use Rattle.fl_c_operations.proofs.HeldSends.{transmitting_sends}
use Rattle.fl_c_operations.proofs.sending.transmitting_sent.Goals as goal

pub returns : goal.returns
returns c = record { sent = transmitting_sends c.end_sent.ensures.sent c.codec_sent.ensures.sent }
