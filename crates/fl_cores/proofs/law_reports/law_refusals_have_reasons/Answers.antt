use Rattle.fl_cores.proofs.Reasons.{refusals_have}
use Rattle.fl_cores.proofs.law_reports.law_refusals_have_reasons.Goals as goal

pub returns : goal.returns
returns c = record {
  reasons = refusals_have c.law_names_are_shown.ensures.agree c.law_set_ups_start_fresh.ensures.fresh c.law_cores_go.ensures.amply (record { handed_out = c.law_handed_out_go_on.ensures.go_on; look = c.law_sides_go.ensures.goes })
      c.law_leads_at_first.ensures.leads c.law_progresses_tell_reasons.ensures.tell c.law_progresses_tell_reasons.ensures.reason c.law_ends_sit.ensures.sit c.law_reports_are_of_runs.ensures.runs;
}
