use Rattle.std.proofs.Common.{refl, [], ◌∷◌}
use Rattle.flounder_commands.specs.Commands.{Views}
use Rattle.flounder_commands.specs.FileEffects.{was_read}
use Rattle.flounder_commands.specs.Status.{status_of}
use Rattle.flounder_commands.specs.Streams.{output_of}
use Rattle.flounder_commands.proofs.FileEffects.{finished}
use Rattle.flounder_commands.proofs.Doing.{not_viewed, show_done}
use Rattle.flounder_commands.proofs.commands.show_file.Goals as goal

pub returns-in-Ok : goal.returns-in-Ok
returns-in-Ok g c =
    let o = output_of g.W.Write.contents c.args.output.now c.show_read.new.output in
    record {
      shown =
          show_done (g.F.FileStore.effects c.args.files.now) (g.F.FileStore.effects c.read.new.self) c.args.file.now c.in-Ok.content.items c.deref.result.now c.args.names o c.finish.result c.in-Ok.ensures.done c.deref.ensures.value
          (finished c.show_read.result (λ status. Views c.args.file.now c.args.names o status (was_read c.args.file.now c.deref.result.now ∷ [])) c.finish.result c.show_read.ensures.shown c.finish.ensures.done c.finish.ensures.fault);
    }

pub returns-in-Err : goal.returns-in-Err
returns-in-Err g c = record {
  shown =
      not_viewed (g.F.FileStore.effects c.args.files.now) (g.F.FileStore.effects c.read.new.self) c.args.file.now c.args.names (output_of g.W.Write.contents c.args.output.now c.args.output.now)
      _ c.finish-in-Err.result (status_of c.fault_of_reading.result) c.in-Err.ensures.done refl c.finish-in-Err.ensures.fault c.fault_of_reading.ensures.failed;
}
