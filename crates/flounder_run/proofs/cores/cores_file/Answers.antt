use Rattle.std.proofs.Common.{refl}
use Rattle.flounder_commands.specs.Status.{status_of}
use Rattle.flounder_commands.specs.Streams.{output_of}
use Rattle.flounder_run.proofs.Doing.{cores_done, cores_unread}
use Rattle.flounder_run.proofs.cores.cores_file.Goals as goal

pub returns-in-Ok : goal.returns-in-Ok
returns-in-Ok g c = record {
  ran =
      cores_done (g.F.FileStore.effects c.args.files.now) (g.F.FileStore.effects c.read.new.self) c.args.file.now c.in-Ok.content.items c.deref.result.now c.args.turns
      (output_of g.W.Write.contents c.args.output.now c.cores_read.new.output) c.cores_read.result c.in-Ok.ensures.done c.deref.ensures.value c.cores_read.ensures.ran;
}

pub returns-in-Err : goal.returns-in-Err
returns-in-Err g c = record {
  ran =
      cores_unread (g.F.FileStore.effects c.args.files.now) (g.F.FileStore.effects c.read.new.self) c.args.file.now c.args.turns (output_of g.W.Write.contents c.args.output.now c.args.output.now)
      _ c.finish.result (status_of c.fault_of_reading.result) c.in-Err.ensures.done refl c.finish.ensures.fault c.fault_of_reading.ensures.failed;
}
