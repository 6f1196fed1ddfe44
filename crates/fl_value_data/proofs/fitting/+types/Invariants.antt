use Rattle.std.proofs.Common.{◌≡◌, length, map, drop, ◌≤◌}
use Rattle.fl_interface.specs.Interface.{type_of, fields_from}
use Rattle.fl_value_data.specs.Value.{datum_of, data_from}
use Rattle.fl_value_data.specs.Fits.{have_types, all_have_type}
use Rattle.fl_value_data.proofs.fitting.+types.Given as goal

abbrev pub invariant-all_have_type-loop-value : goal.invariant-all_have_type-loop-value
invariant-all_have_type-loop-value l =
    all_have_type (type_of l.fixed) (data_from (map datum_of (drop l.value-index l.values))) ≡ all_have_type (type_of l.fixed) (data_from (map datum_of l.values))

abbrev pub invariant-have_types-loop-index : goal.invariant-have_types-loop-index
invariant-have_types-loop-index l =
    (have_types (fields_from (map type_of (drop l.index l.fields))) (data_from (map datum_of (drop l.index l.values))) ≡ have_types (fields_from (map type_of l.fields)) (data_from (map datum_of l.values)))
    × (l.index ≤ length l.fields)
