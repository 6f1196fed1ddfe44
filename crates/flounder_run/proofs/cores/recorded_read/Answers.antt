use Rattle.std.proofs.Common.{refl, [], ◌∷◌}
use Rattle.flounder_commands.specs.FileEffects.{was_read}
use Rattle.flounder_commands.specs.Streams.{output_of}
use Rattle.flounder_commands.proofs.FileEffects.{finished}
use Rattle.flounder_run.specs.Commands.{RunsCores, TellsCores}
use Rattle.flounder_run.proofs.Doing.{all_told, cores_failed, cores_so, kept_so, not_kept}
use Rattle.flounder_run.proofs.cores.recorded_read.Goals as goal

pub returns-then-status-eq5 : goal.returns-then-status-eq5
returns-then-status-eq5 g c =
    let o = output_of g.W.Write.contents c.args.output.now c.print_told-outcome.new.output in
    record {
      ran =
          kept_so (g.F.FileStore.effects c.args.files.now) (g.F.FileStore.effects c.keep_script.new.files) c.args.file.now c.args.content.now c.run_cores_text_recorded.new.out.items
          c.deref.result.now c.deref-then-status-eq5.result.now c.args.turns c.in-Ok.end c.args.out.now o c.finish_told-status.result c.keep_script.result c.deref.ensures.value
          c.deref-then-status-eq5.ensures.value
          (all_told c.args.content.now c.new-told.result.items c.run_cores_text_recorded.new.out.items c.args.turns c.in-Ok.end c.in-Ok.ensures.told c.new-told.ensures.items)
          (finished c.print_told-outcome.result (λ status. TellsCores c.in-Ok.end c.deref.result.now o status) c.finish_told-status.result c.print_told-outcome.ensures.told
          c.finish_told-status.ensures.done c.finish_told-status.ensures.fault)
          c.if-status-eq5.either c.keep_script.ensures.kept;
    }

pub returns-in-Ok : goal.returns-in-Ok
returns-in-Ok g c =
    let o = output_of g.W.Write.contents c.args.output.now c.print_told-outcome.new.output in
    record {
      ran =
          not_kept (g.F.FileStore.effects c.args.files.now) c.args.file.now c.args.content.now c.args.turns c.args.out.now o c.finish_told-status.result
          (finished c.print_told-outcome.result (λ status. RunsCores c.args.file.now c.args.turns o status (was_read c.args.file.now c.args.content.now ∷ [])) c.finish_told-status.result
          (cores_so c.print_told-outcome.result c.args.file.now c.args.content.now c.run_cores_text_recorded.new.out.items c.deref.result.now c.args.turns c.in-Ok.end o c.deref.ensures.value
          (all_told c.args.content.now c.new-told.result.items c.run_cores_text_recorded.new.out.items c.args.turns c.in-Ok.end c.in-Ok.ensures.told c.new-told.ensures.items)
          c.print_told-outcome.ensures.told)
          c.finish_told-status.ensures.done c.finish_told-status.ensures.fault);
    }

pub returns : goal.returns
returns g c =
    let o = output_of g.W.Write.contents c.args.output.now c.args.output.now in
    record {
      ran =
          not_kept (g.F.FileStore.effects c.args.files.now) c.args.file.now c.args.content.now c.args.turns c.args.out.now o c.tell_no_report.result
          (cores_failed c.args.file.now c.args.content.now c.args.turns o c.in-Err.fault c.tell_no_report.result refl c.in-Err.ensures.fault c.tell_no_report.ensures.status);
    }
