-- Calls under way may go to a thread, and so may a board and a core.
use denote.Struct.Declared.{shape}
use denote.Param.Send.{IsSend, SendAt, sendable, recorded_send, recorded_send_of, recorded_send_at, struct_send, struct_send_at, view_send}
use Rattle.std.proofs.Common.{ℕ, zero, suc, List, [], ◌∷◌}
use denote.Builtin.{u8}
use denote.RattleType.{RattleType}
use Rattle.std.proofs.Crossing.{crosses, Vec-send}
use Rattle.fl_core.proofs.dispatcher.Dispatcher.TheSendSync as dispatcher
use Rattle.fl_core.proofs.kind.ChannelKind.TheSendSync as kind
use Rattle.fl_core.proofs.wiring.WiredEnd.TheSendSync as wired_end
use Rattle.fl_core.proofs.wiring.LinkSide.TheSendSync as link_side
use Rattle.fl_endpoint.specs.contracts.end.End
use Rattle.fl_value_data.specs.contracts.value.Call
use Rattle.fl_compact_calls.specs.contracts.number_call.NumberCall
use Rattle.fl_compile.specs.contracts.program.Program
use Rattle.fl_machine.specs.Reassembling.{TheReassembly}
use Rattle.fl_machine.specs.declared.reassemblies.Reassemblies as ReassembliesCode
use Rattle.fl_machine.proofs.recv.PartialCall.TheSendSync as partial
use Rattle.fl_machine.specs.contracts.reassembly.Assembly
use Rattle.fl_machine.specs.contracts.reassemblies.ReassemblyPlaces as Places
use Rattle.fl_machine.specs.contracts.reassemblies.Reassemblies
use Rattle.fl_machine.specs.contracts.reassemblies.Reassemblies.TheInside as ReassembliesInside
use Rattle.fl_base.proofs.identity.ChanId.TheSendSync as channel
use Rattle.fl_core.specs.BoardView.{TheBoard, TheEndAtChannel}
use Rattle.fl_core.specs.declared.seat.EndAtChannel as SeatCode
use Rattle.fl_core.specs.contracts.seat.EndAtChannel as Seat
use Rattle.fl_core.specs.contracts.seat.EndAtChannel.TheInside as SeatInside
use Rattle.fl_core.specs.declared.one_board.Board as BoardCode
use Rattle.fl_core.specs.contracts.one_board.Board
use Rattle.fl_core.specs.contracts.one_board.Board.TheInside as BoardInside
use Rattle.fl_link.specs.contracts.queue.QueueLink
use Rattle.fl_monitor.specs.contracts.monitor.Monitor
use Rattle.fl_core.specs.View.{TheCore}
use Rattle.fl_core.specs.declared.one_core.Core as CoreCode
use Rattle.fl_core.specs.contracts.one_core.Core
use Rattle.fl_core.specs.contracts.one_core.Core.TheInside as CoreInside

seat_inside : IsSend End.the_row → IsSend SeatInside.the_row
seat_inside end = recorded_send (SeatInside.the_field).row _ _ (SeatInside.the_type).to_one
    (struct_send (shape SeatInside.the_type) (
      end,
      (
        search (sendable, crosses) depth 20,
        (
          search (sendable, crosses, channel.the_send) depth 20,
          (
            search (sendable, crosses, kind.the_send) depth 20,
            tt,
          ),
        ),
      ),
    ))

seat_sends : IsSend End.the_row → IsSend Seat.the_row
seat_sends end = view_send SeatInside.the_row TheEndAtChannel SeatCode.the_code Seat.the_view Seat.the_invariant (seat_inside end)

-- what may go at any value may go at one
at_value : (R : RattleType) → IsSend R → (x : R.Denot) → SendAt R x
at_value R s x = (s.owned x, λ k. s.leaving k x)

-- the row of a field
row_at : List RattleType → ℕ → RattleType
row_at [] n = u8
row_at (R ∷ Ts) zero = R
row_at (R ∷ Ts) (suc n) = row_at Ts n

-- a program may go at what a program is, not at any parts
assembly_sends : IsSend Program.the_row → IsSend Assembly.the_row
unfolding row_at
assembly_sends program = recorded_send_of (Assembly.the_field).row _ _ (Assembly.the_type).to_one
    (λ d. let a = (Assembly.the_type).to d in let Ts = (shape Assembly.the_type).fields in
    struct_send_at (shape Assembly.the_type) a (
      recorded_send_at (Program.the_field).row _ _ (Program.the_type).to_one program d.program,
      (at_value (row_at Ts 1) (search (sendable, crosses, partial.the_send) depth 40) a.1.0, tt),
    ))

places_field : IsSend Program.the_row → IsSend Call.the_row → IsSend NumberCall.the_row → IsSend (Places.the_field).row
places_field program call number = struct_send (shape Places.the_type) (
  search (sendable, crosses) depth 20,
  (
    Vec-send Assembly.the_row (assembly_sends program),
    (
      search (sendable, crosses) depth 40,
      (
        search (sendable, crosses) depth 40,
        (
          search (sendable, crosses) depth 40,
          (search (sendable, crosses, call) depth 40, (search (sendable, crosses, number) depth 40, tt)),
        ),
      ),
    ),
  ),
)

reassemblies_inside : IsSend Program.the_row → IsSend Call.the_row → IsSend NumberCall.the_row → IsSend ReassembliesInside.the_row
reassemblies_inside program call number = recorded_send (ReassembliesInside.the_field).row _ _ (ReassembliesInside.the_type).to_one
    (struct_send (shape ReassembliesInside.the_type) (places_field program call number, tt))

pub reassemblies_sends : IsSend Program.the_row → IsSend Call.the_row → IsSend NumberCall.the_row → IsSend Reassemblies.the_row
reassemblies_sends program call number =
    view_send ReassembliesInside.the_row (List TheReassembly) ReassembliesCode.the_code Reassemblies.the_view Reassemblies.the_invariant
    (reassemblies_inside program call number)

board_inside : IsSend End.the_row → IsSend Reassemblies.the_row → IsSend BoardInside.the_row
board_inside end calls = recorded_send (BoardInside.the_field).row _ _ (BoardInside.the_type).to_one
    (struct_send (shape BoardInside.the_type) (
      search (sendable, crosses) depth 20,
      (
        search (sendable, crosses, dispatcher.the_send) depth 40,
        (
          search (sendable, crosses, seat_sends end) depth 40,
          (calls, (search (sendable, crosses) depth 40, tt)),
        ),
      ),
    ))

pub board_sends : IsSend End.the_row → IsSend Reassemblies.the_row → IsSend Board.the_row
board_sends end calls = view_send BoardInside.the_row TheBoard BoardCode.the_code Board.the_view Board.the_invariant (board_inside end calls)

core_inside : IsSend Board.the_row → IsSend Monitor.the_row → IsSend QueueLink.the_row → IsSend CoreInside.the_row
core_inside board monitor queue = recorded_send (CoreInside.the_field).row _ _ (CoreInside.the_type).to_one
    (struct_send (shape CoreInside.the_type) (
      search (sendable, crosses) depth 20,
      (
        board,
        (
          monitor,
          (
            search (sendable, crosses, wired_end.the_send) depth 40,
            (
              search (sendable, crosses) depth 40,
              (
                search (sendable, crosses, link_side.the_send) depth 40,
                (
                  search (sendable, crosses, queue) depth 40,
                  tt,
                ),
              ),
            ),
          ),
        ),
      ),
    ))

pub core_sends : IsSend Board.the_row → IsSend Monitor.the_row → IsSend QueueLink.the_row → IsSend Core.the_row
core_sends board monitor queue = view_send CoreInside.the_row TheCore CoreCode.the_code Core.the_view Core.the_invariant (core_inside board monitor queue)
