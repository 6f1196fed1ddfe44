use Rattle.std.proofs.Common.{drop, map}
use Rattle.fl_interface.specs.Interface.{type_of, fields_from}
use Rattle.fl_image.specs.Limits.{SoFar}
use Rattle.fl_image.proofs.limits.+measures.Given as goal

abbrev pub invariant-measure_fields-loop-field : goal.invariant-measure_fields-loop-field
invariant-measure_fields-loop-field l = SoFar l.so_far (fields_from (map type_of (drop l.field-index l.fields))) (fields_from (map type_of l.fields))
