use Rattle.std.proofs.Common.{◌≡◌, true, false, List, drop, map, length}
use Rattle.std.specs.List.{zip}
use Rattle.fl_interface.specs.Interface.{arg_type_of}
use Rattle.fl_value_data.specs.Value.{datum_of}
use Rattle.fl_value_data.specs.Fits.{are_arguments}
use Rattle.fl_layout.specs.Leaves.{Leaf, arguments_onto}
use Rattle.fl_wire.specs.Payload.{payload_bytes}
use Rattle.fl_value_data.specs.Plan.{of_rank}
use Rattle.fl_value_data.specs.Tape.{kind}
use Rattle.fl_wire.proofs.encode.put_rank.Given as goal

-- the types and the values that are left fit, and their leaves go onto those that stand
abbrev pub invariant-loop-ty : goal.invariant-loop-ty
invariant-loop-ty l =
    let ts = map arg_type_of (drop (length l.yielded) l.types) in
    let ds = map datum_of (drop (length l.yielded) l.values) in
    record {
      fit : are_arguments ts ds ≡ true;
      written : (before : List Leaf) → l.fn.out.items ≡ payload_bytes before → (now : List Leaf) × (l.out.items ≡ payload_bytes now)
          × (arguments_onto l.after_dynamic (of_rank kind l.plan l.rank (zip ts ds)) now ≡ arguments_onto false (of_rank kind l.plan l.rank (zip (map arg_type_of l.types) (map datum_of l.values))) before);
    }
