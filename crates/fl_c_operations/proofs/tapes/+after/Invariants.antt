use Rattle.std.proofs.Common.{◌≡◌, ◌-◌, map, drop}
use Rattle.fl_interface.specs.Interface.{type_of, fields_from}
use Rattle.fl_c_operations.specs.After.{after_each, after_value, after_fields}
use Rattle.fl_c_operations.proofs.tapes.+after.Given as goal

abbrev pub invariant-after_fields-loop-field : goal.invariant-after_fields-loop-field
invariant-after_fields-loop-field l = after_fields (fields_from (map type_of (drop l.field-index l.fields))) l.rest ≡ after_fields (fields_from (map type_of l.fields)) l.tape

abbrev pub invariant-after_elements-loop-done : goal.invariant-after_elements-loop-done
invariant-after_elements-loop-done l = after_each (after_value (type_of l.element)) (l.count - l.done) l.rest ≡ after_each (after_value (type_of l.element)) l.count l.tape
