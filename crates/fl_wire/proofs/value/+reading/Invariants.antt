use Rattle.std.proofs.Common.{◌≡◌, ◌≤◌, ◌-◌, ◌*◌, drop, map, length, vec_len}
use Rattle.std.specs.Vec.{vec_capacity}
use Rattle.fl_interface.specs.Interface.{structure, type_of, fields_from}
use Rattle.fl_interface.specs.Sizes.{greatest_align}
use Rattle.fl_value_data.specs.Value.{datum_of}
use Rattle.fl_wire.specs.Shapes.{fields_of, elements_of}
use Rattle.fl_wire.proofs.Steps.{Come}
use Rattle.fl_wire.proofs.Parts.{put_before}
use Rattle.fl_wire.proofs.value.+reading.Given as goal

-- the elements so far, and those that are left
abbrev pub invariant-read_each-loop-index : goal.invariant-read_each-loop-index
invariant-read_each-loop-index l = record {
  within : l.end ≤ 56 * length l.frags;
  later : l.at ≤ l.end;
  come : Come (elements_of l.count (type_of l.element)) (elements_of (l.count - l._index) (type_of l.element)) l.frags l.at l.end (put_before (map datum_of l.values.items));
}

-- the structs so far, and those that are left
abbrev pub invariant-read_structs-loop-index : goal.invariant-read_structs-loop-index
invariant-read_structs-loop-index l =
    let ts = fields_from (map type_of l.fields) in
    record {
      within : l.end ≤ 56 * length l.frags;
      later : l.at ≤ l.end;
      aligned : l.align ≡ greatest_align ts;
      come : Come (elements_of l.count (structure ts)) (elements_of (l.count - l._index) (structure ts)) l.frags l.at l.end (put_before (map datum_of l.values.items));
    }

-- the fields so far, and those that are left
abbrev pub invariant-read_fields-loop-field : goal.invariant-read_fields-loop-field
invariant-read_fields-loop-field l = record {
  within : l.end ≤ 56 * length l.frags;
  later : l.at ≤ l.end;
  count : vec_len l.values ≡ l.field-index;
  room : length l.fields ≤ vec_capacity l.values;
  come : Come (fields_of (fields_from (map type_of l.fields))) (fields_of (fields_from (map type_of (drop l.field-index l.fields)))) l.frags l.at l.end (put_before (map datum_of l.values.items));
}
