-- What is made of parts that may go to a thread may go there.
use denote.Struct.Declared.{shape}
use denote.Param.Send.{IsSend, sendable, recorded_send, struct_send}
use Rattle.std.proofs.Crossing.{crosses}
use Rattle.fl_core_run.proofs.plan.TurnPlan.TheSendSync as plan
use Rattle.fl_core_run.proofs.run_seat.RunSeat.TheSendSync as run_seat
use Rattle.fl_core_run.proofs.run.Part.TheSendSync as part
use Rattle.fl_cores_shares.proofs.side_record.SideRecord.TheSendSync as side_record
use Rattle.fl_compile.specs.contracts.program.Program
use Rattle.fl_link.specs.contracts.queue.QueueLink
use Rattle.fl_nameserv.specs.contracts.names.Names
use Rattle.fl_core.specs.contracts.one_core.Core
use Rattle.fl_history_sides.specs.contracts.sides.HistorySides
use Rattle.fl_core_run.specs.contracts.end_progress.EndProgress
use Rattle.fl_core_run.specs.contracts.running.RunningCore as Running
use Rattle.fl_cores_fork.specs.contracts.core_thread.CoreThread
use Rattle.fl_cores_fork.specs.contracts.core_thread.FinishedCore as Done

-- a core with its sides, queues and ends' progress
pub running_sends : IsSend Core.the_row → IsSend HistorySides.the_row → IsSend QueueLink.the_row → IsSend EndProgress.the_row → IsSend Names.the_row
    → IsSend Program.the_row → IsSend (Running.the_field HistorySides.the_row).row
running_sends core side queue progress names program = struct_send (shape (Running.the_type HistorySides.the_row)) (
  search (sendable, crosses) depth 20,
  (
    core,
    (
      side,
      (
        search (sendable, crosses, queue) depth 40,
        (
          search (sendable, crosses, progress) depth 40,
          (
            names,
            (
              search (sendable, crosses, program) depth 40,
              (search (sendable, crosses) depth 20, tt),
            ),
          ),
        ),
      ),
    ),
  ),
)

-- the same in a box
running_boxed : IsSend (Running.the_field HistorySides.the_row).row → IsSend (Running.the_row HistorySides.the_row)
running_boxed running = recorded_send (Running.the_field HistorySides.the_row).row _ _ (Running.the_type HistorySides.the_row).to_one running

pub core_thread_field : IsSend (Running.the_field HistorySides.the_row).row → IsSend (CoreThread.the_field).row
core_thread_field running = struct_send (shape CoreThread.the_type) (let row = running_boxed running in search (sendable, crosses, row) depth 40, (plan.the_field_send, (run_seat.the_field_send, tt)))

pub core_thread_sends : IsSend (Running.the_field HistorySides.the_row).row → IsSend CoreThread.the_row
core_thread_sends running = recorded_send (CoreThread.the_field).row _ _ (CoreThread.the_type).to_one (core_thread_field running)

pub done_field : IsSend (Running.the_field HistorySides.the_row).row → IsSend (Done.the_field).row
done_field running = struct_send (shape Done.the_type) (core_thread_field running, (part.the_field_send, (search (sendable, crosses, side_record.the_send) depth 40, tt)))

pub done_sends : IsSend (Running.the_field HistorySides.the_row).row → IsSend Done.the_row
done_sends running = recorded_send (Done.the_field).row _ _ (Done.the_type).to_one (done_field running)
