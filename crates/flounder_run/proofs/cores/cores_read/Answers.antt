use Rattle.std.proofs.Common.{refl, [], ◌∷◌}
use Rattle.flounder_commands.specs.FileEffects.{was_read}
use Rattle.flounder_commands.specs.Streams.{output_of}
use Rattle.flounder_commands.proofs.FileEffects.{finished}
use Rattle.flounder_run.specs.Commands.{RunsCores}
use Rattle.flounder_run.proofs.Doing.{all_told, cores_failed, cores_so}
use Rattle.flounder_run.proofs.cores.cores_read.Goals as goal

pub returns-in-Ok : goal.returns-in-Ok
returns-in-Ok g c =
    let o = output_of g.W.Write.contents c.args.output.now c.print_told-outcome.new.output in
    record {
      ran =
          finished c.print_told-outcome.result (λ status. RunsCores c.args.file.now c.args.turns o status (was_read c.args.file.now c.args.content.now ∷ [])) c.finish_told.result
          (cores_so c.print_told-outcome.result c.args.file.now c.args.content.now c.run_cores_text.new.out.items c.deref.result.now c.args.turns c.in-Ok.end o c.deref.ensures.value
          (all_told c.args.content.now c.new-told.result.items c.run_cores_text.new.out.items c.args.turns c.in-Ok.end c.in-Ok.ensures.told c.new-told.ensures.items)
          c.print_told-outcome.ensures.told)
          c.finish_told.ensures.done c.finish_told.ensures.fault;
    }

pub returns : goal.returns
returns g c = record {
  ran =
      cores_failed c.args.file.now c.args.content.now c.args.turns (output_of g.W.Write.contents c.args.output.now c.args.output.now) c.in-Err.fault c.tell_no_report.result refl
      c.in-Err.ensures.fault c.tell_no_report.ensures.status;
}
