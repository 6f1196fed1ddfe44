use Rattle.std.proofs.Common.{arith}
use Rattle.fl_interface.specs.Interface.{type_of}
use Rattle.fl_image.proofs.Written.{structure_written}
use Rattle.fl_image.proofs.writer.+types.Goals as goal

pub put_structure-returns : goal.put_structure-returns
put_structure-returns t c = record { put = structure_written type_of c.args.fields.now c.loop-field.field-index c.loop-field.out.items c.args.out.now.items (omega (arith, c.loop-field-test.false)) c.loop-field.invariant }
