use Rattle.fl_cores.proofs.Whole.{runs_honest}
use Rattle.fl_cores.proofs.law_reports.law_runs_report_honestly.Goals as goal

pub returns : goal.returns
returns c = record {
  honest = runs_honest c.law_set_ups_start_fresh.ensures.fresh c.law_cores_go.ensures.goes (record { handed_out = c.law_handed_out_go_on.ensures.go_on; look = c.law_sides_go.ensures.goes })
      c.law_leads_at_first.ensures.leads c.law_runs_are_honest.ensures.honest;
}
