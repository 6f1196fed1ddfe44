use Rattle.fl_c_operations.proofs.HeldSends.{reassemblies_sends}
use Rattle.fl_c_operations.proofs.sending.calls_sent.Goals as goal

pub returns : goal.returns
returns c = record { sent = reassemblies_sends c.program_sent.ensures.sent c.call_sent.ensures.sent c.number_call_sent.ensures.sent }
