use Rattle.std.proofs.Common.{◌≡◌, ◌++◌, drop, map}
use Rattle.fl_interface.specs.Interface.{type_of, fields_from}
use Rattle.fl_value_data.specs.Value.{datum_of, data_from}
use Rattle.fl_value_data.specs.Tape.{fields_tape, elements_tape}
use Rattle.fl_value_data.proofs.tape.+tapes.Given as goal

abbrev pub invariant-push_elements-loop-value : goal.invariant-push_elements-loop-value
invariant-push_elements-loop-value l =
    l.tape.items ++ elements_tape (type_of l.element) (data_from (map datum_of (drop l.value-index l.values))) ≡ l.fn.tape.items ++ elements_tape (type_of l.element) (data_from (map datum_of l.values))

abbrev pub invariant-push_fields-loop-index : goal.invariant-push_fields-loop-index
invariant-push_fields-loop-index l =
    l.tape.items ++ fields_tape (fields_from (map type_of (drop l.index l.fields))) (data_from (map datum_of (drop l.index l.values))) ≡ l.fn.tape.items ++ fields_tape (fields_from (map type_of l.fields)) (data_from (map datum_of l.values))
