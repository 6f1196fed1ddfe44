use Rattle.fl_cores.proofs.OneWhole.{of_one_core}
use Rattle.fl_cores.proofs.law_reports.law_runs_of_one_core.Goals as goal

pub returns : goal.returns
returns c = record {
  one = of_one_core c.law_steps_agree.ensures.agree c.law_set_ups_start_fresh.ensures.fresh c.law_set_ups_touch_nothing.ensures.untouched
      c.law_runs_report_honestly.ensures.honest;
}
