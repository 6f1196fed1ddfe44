use Rattle.fl_c_operations.proofs.HandleSends.{handle_sends}
use Rattle.fl_c_operations.proofs.sending.law_handles_go_to_threads.Goals as goal

pub returns : goal.returns
returns c = record {
  sent = handle_sends c.side_sent.ensures.sent c.held_sent.ensures.sent c.held_program_sent.ensures.sent c.sender_sent.ensures.sent
      c.receiver_sent.ensures.sent;
}
