use Rattle.std.proofs.Common.{◌≡◌, true, false, List, drop, map, length}
use Rattle.std.specs.List.{zip}
use Rattle.fl_interface.specs.Interface.{arg_type_of}
use Rattle.fl_value_data.specs.Value.{datum_of}
use Rattle.fl_value_data.specs.Fits.{are_arguments}
use Rattle.fl_value_data.specs.Plan.{never_falls}
use Rattle.fl_value_data.specs.declared.value.PlanNo.TheVariants.{Two}
use Rattle.fl_layout.specs.Leaves.{Leaf, arguments_onto}
use Rattle.fl_wire.specs.Payload.{payload_bytes}
use Rattle.fl_wire.proofs.Scalars.{rises}
use Rattle.fl_wire.proofs.encode.put_in_order.Given as goal

-- the types and the values that are left fit, their ranks never fall if none does, and their leaves go onto those that stand
abbrev pub invariant-loop-argument : goal.invariant-loop-argument
invariant-loop-argument l =
    let ts = map arg_type_of l.types in
    let left = map arg_type_of (drop (length l.yielded) l.types) in
    let ds = map datum_of (drop (length l.yielded) l.values) in
    record {
      fit : are_arguments left ds ≡ true;
      up : never_falls Two ts ≡ rises Two l.least left;
      written : (before : List Leaf) → l.fn.out.items ≡ payload_bytes before → (now : List Leaf) × (l.out.items ≡ payload_bytes now)
          × (arguments_onto l.after_dynamic (zip left ds) now ≡ arguments_onto false (zip ts (map datum_of l.values)) before);
    }
