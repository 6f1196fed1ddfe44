use Rattle.flounder_commands.specs.Streams.{output_of}
use Rattle.flounder_run.proofs.Charting.{all_lines}
use Rattle.flounder_run.proofs.chart.chart_file.Goals as goal

pub returns-in-None : goal.returns-in-None
returns-in-None g c =
    rw c.in-None.is (record {
      charted =
          all_lines (g.F.FileStore.effects c.args.files.now) (g.F.FileStore.effects c.chart_lines.new.files) c.args.file.now
          (output_of g.W.Write.contents c.args.output.now c.chart_lines.new.output) c.chart_lines.result c.chart_lines.ensures.drawn;
    })

pub returns-in-Some : goal.returns-in-Some
returns-in-Some g c = rw c.in-Some.is (record { charted = c.chart_told.ensures.charted })
