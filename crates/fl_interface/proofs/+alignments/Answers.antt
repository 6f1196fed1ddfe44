use Rattle.std.proofs.Common.{map, arith}
use Rattle.fl_interface.specs.Interface.{type_of, fields_from}
use Rattle.fl_interface.proofs.Aligned.{some_greatest}
use Rattle.fl_interface.proofs.+alignments.Goals as goal

pub sizes::greatest_alignment-loop-field-init : goal.sizes::greatest_alignment-loop-field-init
sizes::greatest_alignment-loop-field-init t c =
    (omega (arith, (some_greatest (fields_from (map type_of c.args.fields.now))).0), omega arith, omega arith)
