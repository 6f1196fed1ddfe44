use Rattle.std.proofs.lemmas.Result.{IfOk-weaker}
use Rattle.fl_cores.proofs.reports.run_cores.Goals as goal

pub returns-clause-reports : goal.returns-clause-reports
returns-clause-reports g c =
    IfOk-weaker c.run_jobs.result _ _ (λ r told. record {
      reports = told;
      honest = c.law_runs_report_honestly.ensures.honest _ _ _ _ told;
      ends = c.law_runs_end_as_told.ensures.ends _ _ _ _ told;
      cores = c.law_runs_follow.ensures.follow _ _ _ _ told;
      one = c.law_runs_of_one_core.ensures.one _ _ _ _ told;
    }) c.run_jobs.ensures.reports
