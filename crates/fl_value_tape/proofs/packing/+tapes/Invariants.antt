use Rattle.std.proofs.Common.{◌≡◌, ◌++◌, drop, map}
use Rattle.fl_interface.specs.Interface.{type_of, fields_from}
use Rattle.fl_value_data.specs.Value.{datum_of, data_from}
use Rattle.fl_value_tape.specs.Packed.{fields_packed, elements_packed}
use Rattle.fl_value_tape.proofs.packing.+tapes.Given as goal

abbrev pub invariant-push_elements-loop-value : goal.invariant-push_elements-loop-value
invariant-push_elements-loop-value l =
    l.out.items ++ elements_packed (type_of l.element) (data_from (map datum_of (drop l.value-index l.values))) ≡ l.fn.out.items ++ elements_packed (type_of l.element) (data_from (map datum_of l.values))

abbrev pub invariant-push_fields-loop-index : goal.invariant-push_fields-loop-index
invariant-push_fields-loop-index l =
    l.out.items ++ fields_packed (fields_from (map type_of (drop l.index l.fields))) (data_from (map datum_of (drop l.index l.values))) ≡ l.fn.out.items ++ fields_packed (fields_from (map type_of l.fields)) (data_from (map datum_of l.values))
