use Rattle.std.proofs.lemmas.Result.{IfOk-weaker}
use Rattle.fl_cores.proofs.ReportTexts.{honestly}
use Rattle.fl_cores.proofs.reports.run_cores_text_recorded.Goals as goal

pub returns : goal.returns
returns g c = record {
  told = IfOk-weaker c.run_text.result _ _ (λ end told. honestly c.law_runs_report_honestly.ensures.honest c.law_runs_end_as_told.ensures.ends c.law_runs_follow.ensures.follow c.law_runs_of_one_core.ensures.one _ _ _ _ _ told) c.run_text.ensures.told;
  kept = c.run_text.ensures.kept;
  fault = c.run_text.ensures.fault;
}
