use Rattle.std.proofs.Common.{◌≡◌, ◌≤◌, map, take, replicate, length, vec_len}
use Rattle.std.specs.Vec.{vec_capacity}
use Rattle.fl_interface.specs.Interface.{structure, fields_from, type_of}
use Rattle.fl_value_data.specs.Value.{datum_of}
use Rattle.fl_value_data.specs.Taken.{InTurn}
use Rattle.fl_value_unpack.specs.Reading.{PackedValueAt, OnlyOne}
use Rattle.fl_value_unpack.proofs.value.+unpacked.Given as goal

abbrev pub invariant-read_each-loop-done : goal.invariant-read_each-loop-done
invariant-read_each-loop-done l = record {
  count : vec_len l.values ≡ l.done;
  room : l.count ≤ vec_capacity l.values;
  only : OnlyOne (InTurn PackedValueAt (replicate l.done (type_of l.element)) l.tape) (map datum_of l.values.items) l.rest;
}

abbrev pub invariant-read_structs-loop-done : goal.invariant-read_structs-loop-done
invariant-read_structs-loop-done l = record {
  count : vec_len l.values ≡ l.done;
  room : l.count ≤ vec_capacity l.values;
  only : OnlyOne (InTurn PackedValueAt (replicate l.done (structure (fields_from (map type_of l.fields)))) l.tape) (map datum_of l.values.items) l.rest;
}

abbrev pub invariant-read_fields-loop-field : goal.invariant-read_fields-loop-field
invariant-read_fields-loop-field l = record {
  count : vec_len l.values ≡ l.field-index;
  room : length l.fields ≤ vec_capacity l.values;
  only : OnlyOne (InTurn PackedValueAt (map type_of (take l.field-index l.fields)) l.tape) (map datum_of l.values.items) l.rest;
}
