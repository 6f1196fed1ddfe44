use Rattle.flounder_chart.proofs.Rows.{faults_of_rows}
use Rattle.flounder_chart.proofs.chart.chart_transcript.Goals as goal

pub returns-in-Ok : goal.returns-in-Ok
returns-in-Ok c = record {
  document = c.chart_run.ensures.document;
  fault = faults_of_rows c.chart_run.result c.args.script.now _ _ c.requires.fits c.in-Ok.ensures.rows c.chart_run.ensures.fault;
}
