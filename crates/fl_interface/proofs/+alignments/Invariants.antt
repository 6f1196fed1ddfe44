use Rattle.std.proofs.Common.{◌≡◌, ◌≤◌, max, map, drop}
use Rattle.fl_interface.specs.Interface.{type_of, fields_from}
use Rattle.fl_interface.specs.Sizes.{greatest_align}
use Rattle.fl_interface.proofs.+alignments.Given as goal

abbrev pub invariant-sizes::greatest_alignment-loop-field : goal.invariant-sizes::greatest_alignment-loop-field
invariant-sizes::greatest_alignment-loop-field l =
    (max l.greatest (greatest_align (fields_from (map type_of (drop l.field-index l.fields)))) ≡ greatest_align (fields_from (map type_of l.fields)))
    × (1 ≤ l.greatest) × (l.greatest ≤ 8)
