use Rattle.std.proofs.Common.{refl, [], ◌∷◌}
use Rattle.flounder_commands.specs.Headers.{Heads}
use Rattle.flounder_commands.specs.FileEffects.{was_read}
use Rattle.flounder_commands.specs.Status.{status_of}
use Rattle.flounder_commands.specs.Streams.{output_of}
use Rattle.flounder_commands.proofs.FileEffects.{finished}
use Rattle.flounder_commands.proofs.Heading.{not_headed, header_done}
use Rattle.flounder_commands.proofs.header.header_file.Goals as goal

pub returns-in-Ok : goal.returns-in-Ok
returns-in-Ok g c =
    let o = output_of g.W.Write.contents c.args.output.now c.header_read.new.output in
    record {
      headed =
          header_done (g.F.FileStore.effects c.args.files.now) (g.F.FileStore.effects c.read.new.self) c.args.file.now c.in-Ok.content.items c.deref.result.now o c.finish.result c.in-Ok.ensures.done c.deref.ensures.value
          (finished c.header_read.result (λ status. Heads c.args.file.now o status (was_read c.args.file.now c.deref.result.now ∷ [])) c.finish.result c.header_read.ensures.headed c.finish.ensures.done c.finish.ensures.fault);
    }

pub returns-in-Err : goal.returns-in-Err
returns-in-Err g c = record {
  headed =
      not_headed (g.F.FileStore.effects c.args.files.now) (g.F.FileStore.effects c.read.new.self) c.args.file.now (output_of g.W.Write.contents c.args.output.now c.args.output.now)
      _ c.finish-in-Err.result (status_of c.fault_of_reading.result) c.in-Err.ensures.done refl c.finish-in-Err.ensures.fault c.fault_of_reading.ensures.failed;
}
