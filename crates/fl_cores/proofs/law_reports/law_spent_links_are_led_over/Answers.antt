use Rattle.fl_cores.proofs.Over.{spent_led_over, refused_outnumbered}
use Rattle.fl_cores.proofs.law_reports.law_spent_links_are_led_over.Goals as goal

pub returns : goal.returns
returns c = record {
  over = spent_led_over c.law_set_ups_start_fresh.ensures.fresh c.law_cores_go.ensures.goes (record { handed_out = c.law_handed_out_go_on.ensures.go_on; look = c.law_sides_go.ensures.goes })
      c.law_leads_at_first.ensures.leads c.law_spent_on_bindings.ensures.spent;
  refused = refused_outnumbered c.law_set_ups_start_fresh.ensures.fresh c.law_cores_go.ensures.amply (record { handed_out = c.law_handed_out_go_on.ensures.go_on; look = c.law_sides_go.ensures.goes })
      c.law_leads_at_first.ensures.leads c.law_spent_on_bindings.ensures.others c.law_reports_are_of_runs.ensures.runs;
}
