use Rattle.std.proofs.Common.{◌≡◌, ◌+◌, map, drop}
use Rattle.fl_interface.specs.Interface.{type_of, fields_from}
use Rattle.fl_layout.specs.Extents.{numbers_of_all}
use Rattle.fl_layout.proofs.measure.+numbers.Given as goal

abbrev pub invariant-count_all_numbers-loop-field : goal.invariant-count_all_numbers-loop-field
invariant-count_all_numbers-loop-field l =
    l.numbers + numbers_of_all (fields_from (map type_of (drop l.field-index l.fields))) ≡ numbers_of_all (fields_from (map type_of l.fields))
