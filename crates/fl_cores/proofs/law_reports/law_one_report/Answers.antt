use Rattle.fl_cores.proofs.Again as again
use Rattle.fl_cores.proofs.law_reports.law_one_report.Goals as goal

pub returns : goal.returns
returns c = record {
  report = again.one_report c.law_runs_of_one_core.ensures.one;
  text = again.one_text c.law_one_outcome.ensures.one;
}
