-- Runs that handles lead to may go to a thread if what they are made of may.
use Rattle.std.proofs.Common.{ℕ, zero, suc, List, [], ◌∷◌}
use denote.Builtin.{u8}
use denote.RattleType.{RattleType}
use denote.Struct.Declared.{shape}
use denote.Param.Send.{IsSend, SendAt, sendable, recorded_send, recorded_send_of, recorded_send_at, struct_send, struct_send_at, view_send}
use Rattle.std.proofs.Crossing.{crosses}
use Rattle.fl_compile.specs.contracts.program.Program
use Rattle.fl_machine.proofs.recv.PartialCall.TheSendSync as partial
use Rattle.fl_machine.specs.contracts.reassembly.Assembly
use Rattle.fl_machine.specs.contracts.send.SendRun
use Rattle.fl_machine.specs.contracts.recv.RecvRun
use Rattle.fl_c_operations.specs.Runs.{TheSender, TheReceiver}
use Rattle.fl_c_operations.specs.declared.sender.HeldSender as SenderCode
use Rattle.fl_c_operations.specs.contracts.sender.HeldSender as Sender
use Rattle.fl_c_operations.specs.contracts.sender.HeldSender.TheInside as SenderInside
use Rattle.fl_c_operations.specs.declared.receiver.HeldReceiver as ReceiverCode
use Rattle.fl_c_operations.specs.contracts.receiver.HeldReceiver as Receiver
use Rattle.fl_c_operations.specs.contracts.receiver.HeldReceiver.TheInside as ReceiverInside

-- what may go at any value may go at one
pub at_value : (R : RattleType) → IsSend R → (x : R.Denot) → SendAt R x
at_value R s x = (s.owned x, λ k. s.leaving k x)

-- the row of a field
row_at : List RattleType → ℕ → RattleType
row_at [] n = u8
row_at (R ∷ Ts) zero = R
row_at (R ∷ Ts) (suc n) = row_at Ts n

-- a program may go at what a program is, not at any parts
sender_inside : IsSend Program.the_row → IsSend SendRun.the_row → IsSend SenderInside.the_row
unfolding row_at
sender_inside program run = recorded_send_of (SenderInside.the_field).row _ _ (SenderInside.the_type).to_one
    (λ d. let a = (SenderInside.the_type).to d in let Ts = (shape SenderInside.the_type).fields in
    struct_send_at (shape SenderInside.the_type) a (
      at_value (row_at Ts 0) (search (sendable, crosses) depth 20) a.0,
      (
        recorded_send_at (Program.the_field).row _ _ (Program.the_type).to_one program d.program,
        (at_value (row_at Ts 2) (search (sendable, crosses) depth 20) a.1.1.0, (at_value (row_at Ts 3) (search (sendable, crosses, run) depth 40) a.1.1.1.0, tt)),
      ),
    ))

-- what isn't in the room of a call under way
pub assembly_sends : IsSend Program.the_row → IsSend Assembly.the_row
unfolding row_at
assembly_sends program = recorded_send_of (Assembly.the_field).row _ _ (Assembly.the_type).to_one
    (λ d. let a = (Assembly.the_type).to d in let Ts = (shape Assembly.the_type).fields in
    struct_send_at (shape Assembly.the_type) a (
      recorded_send_at (Program.the_field).row _ _ (Program.the_type).to_one program d.program,
      (at_value (row_at Ts 1) (search (sendable, crosses, partial.the_send) depth 40) a.1.0, tt),
    ))

pub sender_sends : IsSend Program.the_row → IsSend SendRun.the_row → IsSend Sender.the_row
sender_sends program run = view_send SenderInside.the_row TheSender SenderCode.the_code Sender.the_view Sender.the_invariant (sender_inside program run)

receiver_inside : IsSend RecvRun.the_row → IsSend ReceiverInside.the_row
receiver_inside run = recorded_send (ReceiverInside.the_field).row _ _ (ReceiverInside.the_type).to_one
    (struct_send (shape ReceiverInside.the_type) (
      search (sendable, crosses) depth 20,
      (run, (search (sendable, crosses) depth 20, (search (sendable, crosses) depth 40, tt))),
    ))

pub receiver_sends : IsSend RecvRun.the_row → IsSend Receiver.the_row
receiver_sends run = view_send ReceiverInside.the_row TheReceiver ReceiverCode.the_code Receiver.the_view Receiver.the_invariant (receiver_inside run)
