-- What an end as a handle holds it is made of may go to a thread, and so may it.
use denote.RattleType.{RattleType}
use denote.Struct.Declared.{shape}
use denote.Param.Send.{IsSend, sendable, recorded_send, struct_send, view_send}
use Rattle.std.specs.contracts.option.Option.{the_row as OptionOf}
use Rattle.std.specs.Prelude.{List}
use Rattle.std.proofs.Crossing.{crosses, Vec-send}
use Rattle.fl_value_data.specs.contracts.value.Call
use Rattle.fl_compact_calls.specs.contracts.number_call.NumberCall
use Rattle.fl_compile.specs.contracts.program.Program
use Rattle.fl_machine.specs.Reassembling.{TheReassembly}
use Rattle.fl_machine.specs.declared.reassemblies.Reassemblies as ReassembliesCode
use Rattle.fl_machine.specs.contracts.reassembly.Assembly
use Rattle.fl_machine.specs.contracts.reassemblies.ReassemblyPlaces as Places
use Rattle.fl_machine.specs.contracts.reassemblies.Reassemblies
use Rattle.fl_machine.specs.contracts.reassemblies.Reassemblies.TheInside as ReassembliesInside
use Rattle.fl_codec.specs.contracts.codec.Codec
use Rattle.fl_endpoint.specs.contracts.end.End
use Rattle.fl_ring.specs.contracts.shared.duo_sides.SharedSide
use Rattle.fl_endpoint.specs.View.{TheEnd}
use Rattle.fl_c_operations.proofs.RunSends.{assembly_sends}
use Rattle.fl_c_operations.specs.Seen.{TheLooked}
use Rattle.fl_c_operations.specs.View.{TheHeld}
use Rattle.fl_c_operations.specs.contracts.unread.UnreadCall
use Rattle.fl_c_operations.specs.declared.looked.LookedSide as LookedCode
use Rattle.fl_c_operations.specs.contracts.looked.LookedSide as Looked
use Rattle.fl_c_operations.specs.contracts.looked.LookedSide.TheInside as LookedInside
use Rattle.fl_c_operations.specs.declared.transmitting.TransmittingEnd as TransmittingCode
use Rattle.fl_c_operations.specs.contracts.transmitting.TransmittingEnd as Transmitting
use Rattle.fl_c_operations.specs.contracts.transmitting.TransmittingEnd.TheInside as TransmittingInside
use Rattle.fl_c_operations.specs.declared.end.HeldEnd as HeldCode
use Rattle.fl_c_operations.specs.contracts.end.HeldEnd as Held
use Rattle.fl_c_operations.specs.contracts.end.HeldEnd.TheInside as HeldInside

-- what may be missing goes where it goes by itself
option_sends : (R : RattleType) → IsSend R → IsSend (OptionOf R)
option_sends R s = search sendable depth 12

transmitting_inside : IsSend End.the_row → IsSend Codec.the_row → IsSend TransmittingInside.the_row
transmitting_inside end codec = recorded_send (TransmittingInside.the_field).row _ _ (TransmittingInside.the_type).to_one
    (struct_send (shape TransmittingInside.the_type) (end, (Vec-send (OptionOf Codec.the_row) (option_sends Codec.the_row codec), (search (sendable, crosses) depth 40, tt))))

pub transmitting_sends : IsSend End.the_row → IsSend Codec.the_row → IsSend Transmitting.the_row
transmitting_sends end codec = view_send TransmittingInside.the_row TheEnd TransmittingCode.the_code Transmitting.the_view Transmitting.the_invariant (transmitting_inside end codec)

looked_inside : IsSend SharedSide.the_row → IsSend LookedInside.the_row
looked_inside side = recorded_send (LookedInside.the_field).row _ _ (LookedInside.the_type).to_one
    (struct_send (shape LookedInside.the_type) (side, (search (sendable, crosses) depth 40, tt)))

pub looked_sends : IsSend SharedSide.the_row → IsSend Looked.the_row
looked_sends side = view_send LookedInside.the_row TheLooked LookedCode.the_code Looked.the_view Looked.the_invariant (looked_inside side)

places_field : IsSend Program.the_row → IsSend Call.the_row → IsSend NumberCall.the_row → IsSend (Places.the_field).row
places_field program call number = struct_send (shape Places.the_type) (
  search (sendable, crosses) depth 20,
  (
    Vec-send Assembly.the_row (assembly_sends program),
    (
      search (sendable, crosses) depth 40,
      (
        search (sendable, crosses) depth 40,
        (
          search (sendable, crosses) depth 40,
          (search (sendable, crosses, call) depth 40, (search (sendable, crosses, number) depth 40, tt)),
        ),
      ),
    ),
  ),
)

reassemblies_inside : IsSend Program.the_row → IsSend Call.the_row → IsSend NumberCall.the_row → IsSend ReassembliesInside.the_row
reassemblies_inside program call number = recorded_send (ReassembliesInside.the_field).row _ _ (ReassembliesInside.the_type).to_one
    (struct_send (shape ReassembliesInside.the_type) (places_field program call number, tt))

pub reassemblies_sends : IsSend Program.the_row → IsSend Call.the_row → IsSend NumberCall.the_row → IsSend Reassemblies.the_row
reassemblies_sends program call number =
    view_send ReassembliesInside.the_row (List TheReassembly) ReassembliesCode.the_code Reassemblies.the_view Reassemblies.the_invariant
    (reassemblies_inside program call number)

held_inside : IsSend Transmitting.the_row → IsSend Looked.the_row → IsSend Reassemblies.the_row → IsSend UnreadCall.the_row → IsSend HeldInside.the_row
held_inside end side calls call = recorded_send (HeldInside.the_field).row _ _ (HeldInside.the_type).to_one
    (struct_send (shape HeldInside.the_type) (
      search (sendable, crosses) depth 20,
      (
        end,
        (
          side,
          (
            calls,
            (
              search (sendable, crosses, call) depth 40,
              (search (sendable, crosses) depth 20, (search (sendable, crosses) depth 40, tt)),
            ),
          ),
        ),
      ),
    ))

pub held_sends : IsSend Transmitting.the_row → IsSend Looked.the_row → IsSend Reassemblies.the_row → IsSend UnreadCall.the_row → IsSend Held.the_row
held_sends end side calls call = view_send HeldInside.the_row TheHeld HeldCode.the_code Held.the_view Held.the_invariant (held_inside end side calls call)
