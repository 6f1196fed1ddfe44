-- A handle may go to a thread if each kind of thing that one leads to may.
use denote.Param.Send.{IsSend}
use denote.Param.SendFields.{as_row_send, variants_send}
use Rattle.fl_ring.specs.contracts.shared.duo_sides.SharedSide
use Rattle.fl_c_operations.specs.contracts.end.HeldEnd
use Rattle.fl_c_operations.specs.contracts.program.HeldProgram
use Rattle.fl_c_operations.specs.contracts.sender.HeldSender
use Rattle.fl_c_operations.specs.contracts.receiver.HeldReceiver
use Rattle.fl_c_operations.specs.contracts.handle.Handle

pub handle_sends : IsSend SharedSide.the_row → IsSend HeldEnd.the_row → IsSend HeldProgram.the_row → IsSend HeldSender.the_row → IsSend HeldReceiver.the_row
    → IsSend Handle.the_row
handle_sends side end program sender receiver = variants_send Handle.enum (
  (as_row_send SharedSide.the_field side, tt),
  (
    (as_row_send HeldEnd.the_field end, tt),
    ((program, tt), ((as_row_send HeldSender.the_field sender, tt), ((as_row_send HeldReceiver.the_field receiver, tt), (tt, tt)))),
  ),
)
