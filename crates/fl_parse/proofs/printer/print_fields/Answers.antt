use Rattle.std.proofs.Common.{arith}
use Rattle.fl_parse.specs.Tree.{field_of}
use Rattle.fl_parse.specs.Printed.{field_text}
use Rattle.fl_parse.proofs.Texts.{written_on, written_all}
use Rattle.fl_parse.proofs.printer.print_fields.Goals as goal

pub loop-field-preserved : goal.loop-field-preserved
loop-field-preserved c =
    written_on field_of field_text c.args.fields.now c.loop-field.field-index _ _ _ _ _ (omega arith) c.field-item.is c.loop-field.invariant c.in_ok-print_field.ensures.printed

pub returns : goal.returns
returns c = record { printed = written_all field_of field_text c.args.fields.now c.loop-field.field-index _ _ (omega arith) c.loop-field.invariant }
