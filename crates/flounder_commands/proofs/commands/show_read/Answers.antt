use Rattle.std.proofs.Common.{refl}
use Rattle.flounder_commands.specs.Status.{status_of}
use Rattle.flounder_commands.specs.Streams.{output_of}
use Rattle.flounder_commands.proofs.Doing.{not_shown, shown_so}
use Rattle.flounder_commands.proofs.commands.show_read.Goals as goal

pub returns-in-Ok : goal.returns-in-Ok
returns-in-Ok g c = record {
  shown =
      shown_so c.print_table.result c.args.file.now c.args.content.now c.in-Ok.table.items c.deref.result.now c.args.names (output_of g.W.Write.contents c.args.output.now c.print_table.new.output)
      c.deref.ensures.value c.in-Ok.ensures.table c.print_table.ensures.told;
}

pub returns-in-Err : goal.returns-in-Err
returns-in-Err g c = record {
  shown =
      not_shown c.args.file.now c.args.content.now c.args.names (output_of g.W.Write.contents c.args.output.now c.args.output.now) c.in-Err.fault (status_of c.fault_of_content.result) c.in-Err.ensures.refused refl
      c.fault_of_content.ensures.status;
}
