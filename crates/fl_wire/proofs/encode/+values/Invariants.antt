use Rattle.std.proofs.Common.{◌≡◌, true, List, drop, map, length}
use Rattle.fl_interface.specs.Interface.{type_of, fields_from}
use Rattle.fl_value_data.specs.Value.{datum_of, data_from}
use Rattle.fl_value_data.specs.Fits.{have_types, all_have_type}
use Rattle.fl_layout.specs.Leaves.{Leaf, fields_onto, elements_onto}
use Rattle.fl_wire.specs.Payload.{payload_bytes}
use Rattle.fl_wire.proofs.encode.+values.Given as goal

-- the fields that are left fit, and their leaves go onto those that stand
abbrev pub invariant-put_fields-loop-field : goal.invariant-put_fields-loop-field
invariant-put_fields-loop-field l =
    let ts = fields_from (map type_of (drop (length l.yielded) l.fields)) in
    let ds = data_from (map datum_of (drop (length l.yielded) l.values)) in
    record {
      fit : have_types ts ds ≡ true;
      written : (before : List Leaf) → l.fn.out.items ≡ payload_bytes before → (now : List Leaf) × (l.out.items ≡ payload_bytes now)
          × (fields_onto ts ds now ≡ fields_onto (fields_from (map type_of l.fields)) (data_from (map datum_of l.values)) before);
    }

-- the elements that are left fit, and their leaves go onto those that stand
abbrev pub invariant-put_each-loop-value : goal.invariant-put_each-loop-value
invariant-put_each-loop-value l =
    let ds = data_from (map datum_of (drop l.value-index l.values)) in
    record {
      fit : all_have_type (type_of l.element) ds ≡ true;
      written : (before : List Leaf) → l.fn.out.items ≡ payload_bytes before → (now : List Leaf) × (l.out.items ≡ payload_bytes now)
          × (elements_onto (type_of l.element) ds now ≡ elements_onto (type_of l.element) (data_from (map datum_of l.values)) before);
    }
