use Rattle.std.proofs.Common.{◌≡◌, true, List, drop, map}
use Rattle.std.specs.List.{list_all}
use Rattle.fl_value_data.specs.Value.{datum_of}
use Rattle.fl_layout.specs.Leaves.{Leaf}
use Rattle.fl_wire.specs.Payload.{payload_bytes}
use Rattle.fl_wire.specs.Widths.{is_number_within, numbers_onto}
use Rattle.fl_wire.proofs.encode.put_each_number.Given as goal

-- the numbers that are left fit, and their leaves go onto those that stand
abbrev pub invariant-loop-value : goal.invariant-loop-value
invariant-loop-value l =
    let ds = map datum_of (drop l.value-index l.values) in
    record {
      fit : list_all (is_number_within l.width) ds ≡ true;
      written : (before : List Leaf) → l.fn.out.items ≡ payload_bytes before → (now : List Leaf) × (l.out.items ≡ payload_bytes now)
          × (numbers_onto l.width ds now ≡ numbers_onto l.width (map datum_of l.values) before);
    }
