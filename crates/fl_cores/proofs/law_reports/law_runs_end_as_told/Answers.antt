use Rattle.fl_cores.proofs.Ends.{runs_end_as_told}
use Rattle.fl_cores.proofs.law_reports.law_runs_end_as_told.Goals as goal

pub returns : goal.returns
returns c = record {
  ends = runs_end_as_told c.law_runs_report_honestly.ensures.honest c.law_reports_keep_turns.ensures.kept c.law_complete_has_all.ensures.all c.law_refused_are_opened.ensures.opened
      c.law_refusals_have_reasons.ensures.reasons c.law_dispatchers_handle_few.ensures.set_up c.law_wanted_handle_few.ensures.few c.law_reports_handle_few.ensures.honest
      c.law_spent_links_are_led_over.ensures.refused;
}
