use Rattle.std.proofs.Common.{refl, [], ◌∷◌}
use Rattle.std.specs.Prelude.{option_map}
use Rattle.flounder_chart.specs.Lines.{count_of}
use Rattle.flounder_commands.specs.FileEffects.{was_read}
use Rattle.flounder_commands.specs.Streams.{output_of}
use Rattle.flounder_commands.proofs.FileEffects.{finished}
use Rattle.flounder_run.specs.Charts.{Draws}
use Rattle.flounder_run.proofs.Charting.{not_drawn, drawn_so}
use Rattle.flounder_run.proofs.chart.chart_read.Goals as goal

pub returns-in-Ok : goal.returns-in-Ok
returns-in-Ok g c =
    let o = output_of g.W.Write.contents c.args.output.now c.print.new.output in
    let count = option_map (λ l. count_of l.first l.last) c.args.lines in
    record {
      drawn =
          finished c.print.result (λ status. Draws c.args.file.now count o status (was_read c.args.file.now c.args.script.now ∷ [])) c.finish.result
          (drawn_so c.print.result c.args.file.now c.args.script.now c.in-Ok.drawing.items c.deref.result.now count o c.in-Ok.ensures.fits c.deref.ensures.value c.in-Ok.ensures.document c.print.ensures.put
          c.print.ensures.part)
          c.finish.ensures.done c.finish.ensures.fault;
    }

pub returns-in-Err : goal.returns-in-Err
returns-in-Err g c = record {
  drawn =
      not_drawn c.args.file.now c.args.script.now _ (output_of g.W.Write.contents c.args.output.now c.args.output.now) c.in-Err.fault c.tell_no_drawing.result
      c.in-Err.ensures.fault refl c.tell_no_drawing.ensures.status;
}
