use Rattle.std.proofs.Common.{refl}
use Rattle.flounder_commands.specs.Status.{status_of}
use Rattle.flounder_commands.specs.Streams.{output_of}
use Rattle.flounder_run.proofs.Doing.{cores_unread, recorded_done, recorded_so}
use Rattle.flounder_run.proofs.cores.recorded_file.Goals as goal

pub returns-in-Ok : goal.returns-in-Ok
returns-in-Ok g c = record {
  ran =
      recorded_done (g.F.FileStore.effects c.args.files.now) (g.F.FileStore.effects c.read.new.self) (g.F.FileStore.effects c.recorded_read.new.files) c.args.file.now c.in-Ok.content.items
      c.deref.result.now c.args.turns c.args.out.now (output_of g.W.Write.contents c.args.output.now c.recorded_read.new.output) c.recorded_read.result c.in-Ok.ensures.done c.deref.ensures.value
      c.recorded_read.ensures.ran;
}

pub returns-in-Err : goal.returns-in-Err
returns-in-Err g c =
    let old = g.F.FileStore.effects c.args.files.now in
    let new = g.F.FileStore.effects c.read.new.self in
    let o = output_of g.W.Write.contents c.args.output.now c.args.output.now in
    record {
      ran =
          recorded_so old new c.args.file.now c.args.turns c.args.out.now o c.finish.result
          (cores_unread old new c.args.file.now c.args.turns o _ c.finish.result (status_of c.fault_of_reading.result) c.in-Err.ensures.done refl c.finish.ensures.fault
          c.fault_of_reading.ensures.failed);
    }
