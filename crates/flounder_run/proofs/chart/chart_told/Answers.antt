use Rattle.std.proofs.Common.{Some, refl}
use Rattle.flounder_commands.specs.Streams.{output_of}
use Rattle.flounder_run.proofs.Charting.{lines_told, no_lines, true_is_not_false}
use Rattle.flounder_run.proofs.chart.chart_told.Goals as goal

pub returns-in-None : goal.returns-in-None
returns-in-None g c = record {
  charted =
      no_lines (g.F.FileStore.effects c.args.files.now) c.args.file.now (Some c.args.word.now) (output_of g.W.Write.contents c.args.output.now c.args.output.now)
      c.tell_no_lines.result (c.in-None.ensures.none.0 refl) refl c.tell_no_lines.ensures.status;
}

pub returns-in-Some : goal.returns-in-Some
returns-in-Some g c = record {
  charted =
      lines_told (g.F.FileStore.effects c.args.files.now) (g.F.FileStore.effects c.chart_lines.new.files) c.args.file.now c.args.word.now c.in-Some.lines.first c.in-Some.lines.last
      (output_of g.W.Write.contents c.args.output.now c.chart_lines.new.output) c.chart_lines.result
      (λ none. true_is_not_false (c.in-Some.ensures.none.1 none)) c.in-Some.ensures.first c.in-Some.ensures.last c.chart_lines.ensures.drawn;
}
