use Rattle.std.proofs.Common.{◌≡◌, ◌≤◌, map, replicate, vec_len}
use Rattle.std.specs.Vec.{vec_capacity}
use Rattle.fl_interface.specs.Interface.{scalar}
use Rattle.fl_value_data.specs.Value.{datum_of}
use Rattle.fl_value_data.specs.Taken.{InTurn}
use Rattle.fl_value_unpack.specs.Reading.{PackedValueAt, OnlyOne}
use Rattle.fl_value_unpack.proofs.value.read_many.Given as goal

abbrev pub invariant-loop-done : goal.invariant-loop-done
invariant-loop-done l = record {
  count : vec_len l.values ≡ l.done;
  room : l.count ≤ vec_capacity l.values;
  only : OnlyOne (InTurn PackedValueAt (replicate l.done (scalar l.kind)) l.tape) (map datum_of l.values.items) l.rest;
}
