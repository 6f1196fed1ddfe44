use Rattle.std.proofs.Common.{◌∷◌}
use Rattle.flounder_commands.specs.Commands.{Compiles}
use Rattle.flounder_commands.specs.FileEffects.{Does, was_read}
use Rattle.flounder_commands.specs.Status.{status_of}
use Rattle.flounder_commands.proofs.FileEffects.{finished}
use Rattle.flounder_commands.proofs.Doing.{compile_done, not_read}
use Rattle.flounder_commands.proofs.commands.compile_file.Goals as goal

pub returns-in-Ok : goal.returns-in-Ok
returns-in-Ok g c =
    let old = g.F.FileStore.effects c.read.new.self in
    let new = g.F.FileStore.effects c.compile_read.new.files in
    record {
      compiled =
          compile_done (g.F.FileStore.effects c.args.files.now) old new c.args.file.now c.args.out.now c.in-Ok.content.items c.deref.result.now c.finish.result c.in-Ok.ensures.done c.deref.ensures.value
          (finished c.compile_read.result (λ status. Does old new (λ effects. Compiles c.args.file.now c.args.out.now status (was_read c.args.file.now c.deref.result.now ∷ effects))) c.finish.result
          c.compile_read.ensures.compiled c.finish.ensures.done c.finish.ensures.fault);
    }

pub returns-in-Err : goal.returns-in-Err
returns-in-Err g c = record {
  compiled =
      not_read (g.F.FileStore.effects c.args.files.now) (g.F.FileStore.effects c.read.new.self) c.args.file.now c.args.out.now _ c.finish-in-Err.result (status_of c.fault_of_reading.result)
      c.in-Err.ensures.done c.finish-in-Err.ensures.fault c.fault_of_reading.ensures.failed;
}
