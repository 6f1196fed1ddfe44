use Rattle.std.proofs.Common.{refl}
use Rattle.flounder_commands.specs.Status.{status_of}
use Rattle.flounder_commands.specs.Streams.{output_of}
use Rattle.flounder_commands.proofs.Heading.{has_no_header, headed_so}
use Rattle.flounder_commands.proofs.header.header_read.Goals as goal

pub returns-in-Ok : goal.returns-in-Ok
returns-in-Ok g c = record {
  headed =
      headed_so c.print.result c.args.file.now c.args.content.now c.in-Ok.header.items c.deref.result.now (output_of g.W.Write.contents c.args.output.now c.print.new.output)
      c.deref.ensures.value c.in-Ok.ensures.header c.print.ensures.put c.print.ensures.part;
}

pub returns-in-Err : goal.returns-in-Err
returns-in-Err g c = record {
  headed =
      has_no_header c.args.file.now c.args.content.now (output_of g.W.Write.contents c.args.output.now c.args.output.now) c.in-Err.fault (status_of c.fault_of_content.result) c.in-Err.ensures.refused refl
      c.fault_of_content.ensures.status;
}
