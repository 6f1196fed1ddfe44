use Rattle.fl_cores.proofs.CoresSetUp.{set_up_unfinished, set_up_few}
use Rattle.fl_cores.proofs.law_outcomes.law_dispatchers_handle_few.Goals as goal

pub returns : goal.returns
returns c = record {
  unfinished = set_up_unfinished c.law_set_ups_start_fresh.ensures.fresh c.law_reports_are_of_runs.ensures.runs c.law_reports_handle_few.ensures.unfinished
      c.law_dispatchers_handle_few.ensures.stay;
  set_up = set_up_few c.law_set_ups_start_fresh.ensures.fresh c.law_reports_are_of_runs.ensures.runs c.law_reports_handle_few.ensures.honest
      c.law_dispatchers_handle_few.ensures.stay;
}
