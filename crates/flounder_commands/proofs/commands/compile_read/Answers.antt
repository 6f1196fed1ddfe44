use Rattle.flounder_commands.specs.Status.{status_of}
use Rattle.flounder_commands.proofs.Doing.{compiled_so, not_compiled}
use Rattle.flounder_commands.proofs.commands.compile_read.Goals as goal

pub returns-in-Ok : goal.returns-in-Ok
returns-in-Ok g c = record {
  compiled =
      compiled_so c.write_image.result (g.F.FileStore.effects c.args.files.now) (g.F.FileStore.effects c.write_image.new.files) c.args.file.now c.args.out.now c.args.content.now c.in-Ok.image.items
      c.deref.result.now c.deref.ensures.value c.in-Ok.ensures.image c.write_image.ensures.written c.write_image.ensures.failed;
}

pub returns-in-Err : goal.returns-in-Err
returns-in-Err g c = record {
  compiled =
      not_compiled (g.F.FileStore.effects c.args.files.now) c.args.file.now c.args.out.now c.args.content.now c.in-Err.fault (status_of c.fault_of_content.result) c.in-Err.ensures.refused
      c.fault_of_content.ensures.status;
}
