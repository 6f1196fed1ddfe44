use Rattle.std.proofs.Common.{map, take, replicate}
use Rattle.fl_interface.specs.Interface.{type_of}
use Rattle.fl_value_data.specs.Value.{datum_of}
use Rattle.fl_value_data.specs.Taken.{ValueAt, InTurn, TheOne}
use Rattle.fl_value_data.proofs.untape.+taken.Given as goal

abbrev pub invariant-read_elements-loop-done : goal.invariant-read_elements-loop-done
invariant-read_elements-loop-done l = TheOne (InTurn ValueAt (replicate l.done (type_of l.element)) l.tape) (map datum_of l.values.items) l.rest

abbrev pub invariant-read_fields-loop-field : goal.invariant-read_fields-loop-field
invariant-read_fields-loop-field l = TheOne (InTurn ValueAt (map type_of (take l.field-index l.fields)) l.tape) (map datum_of l.values.items) l.rest
