use Rattle.std.proofs.Common.{◌≡◌, drop, map}
use Rattle.fl_interface.specs.Interface.{type_of, fields_from}
use Rattle.fl_interface.specs.Limits.{are_well_made}
use Rattle.fl_image.proofs.limits.+made.Given as goal

abbrev pub invariant-are_well_made-loop-field : goal.invariant-are_well_made-loop-field
invariant-are_well_made-loop-field l = are_well_made (fields_from (map type_of (drop l.field-index l.fields))) ≡ are_well_made (fields_from (map type_of l.fields))
