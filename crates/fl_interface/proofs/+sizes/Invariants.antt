use Rattle.std.proofs.Common.{◌≡◌, ◌≤◌, max, map, drop}
use Rattle.fl_interface.specs.Interface.{type_of, fields_from}
use Rattle.fl_interface.specs.Sizes.{end_after, greatest_align}
use Rattle.fl_interface.proofs.+sizes.Given as goal

abbrev pub invariant-sizes::measures_of_fields-loop-field : goal.invariant-sizes::measures_of_fields-loop-field
invariant-sizes::measures_of_fields-loop-field l = record {
  ended : end_after l.end (fields_from (map type_of (drop l.field-index l.fields))) ≡ end_after 0 (fields_from (map type_of l.fields));
  aligned : max l.greatest (greatest_align (fields_from (map type_of (drop l.field-index l.fields)))) ≡ greatest_align (fields_from (map type_of l.fields));
  some : 1 ≤ l.greatest;
  few : l.greatest ≤ 8;
}
