use Rattle.fl_cores.proofs.WantedEnds.{wanted_few}
use Rattle.fl_cores.proofs.law_reports.law_wanted_handle_few.Goals as goal

pub returns : goal.returns
returns c = record {
  few = wanted_few c.law_names_are_shown.ensures.agree c.law_set_ups_start_fresh.ensures.fresh c.law_cores_go.ensures.goes
      (record { handed_out = c.law_handed_out_go_on.ensures.go_on; look = c.law_sides_go.ensures.goes }) c.law_leads_at_first.ensures.leads c.law_ends_sit.ensures.sit
      c.law_reports_are_of_runs.ensures.runs c.law_reports_handle_few.ensures.honest c.law_dispatchers_handle_few.ensures.stay;
}
