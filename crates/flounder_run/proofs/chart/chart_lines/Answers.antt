use Rattle.std.proofs.Common.{refl}
use Rattle.flounder_commands.specs.Status.{status_of}
use Rattle.flounder_commands.specs.Streams.{output_of}
use Rattle.flounder_run.proofs.Charting.{not_charted, chart_done}
use Rattle.flounder_run.proofs.chart.chart_lines.Goals as goal

pub returns-in-Ok : goal.returns-in-Ok
returns-in-Ok g c = record {
  drawn =
      chart_done (g.F.FileStore.effects c.args.files.now) (g.F.FileStore.effects c.read.new.self) c.args.file.now c.in-Ok.script.items c.deref.result.now _
      (output_of g.W.Write.contents c.args.output.now c.chart_read.new.output) c.chart_read.result c.in-Ok.ensures.done c.deref.ensures.value c.chart_read.ensures.drawn;
}

pub returns-in-Err : goal.returns-in-Err
returns-in-Err g c = record {
  drawn =
      not_charted (g.F.FileStore.effects c.args.files.now) (g.F.FileStore.effects c.read.new.self) c.args.file.now _ (output_of g.W.Write.contents c.args.output.now c.args.output.now)
      _ c.finish.result (status_of c.fault_of_reading.result) c.in-Err.ensures.done refl c.finish.ensures.fault c.fault_of_reading.ensures.failed;
}
