use Rattle.fl_cores_whole.proofs.AnyOrder.{reports_join_in_any_order, steps_join_in_any_order}
use Rattle.fl_cores_whole.proofs.Begin.{handed_out_join}
use Rattle.fl_cores_whole.proofs.law.law_reports_join_in_any_order.Goals as goal

pub returns : goal.returns
returns c =
    let runs = reports_join_in_any_order c.law_set_ups_start_fresh.ensures.fresh handed_out_join c.law_leads_at_first.ensures.leads
    c.law_runs_join_in_any_order.ensures.runs in
    record { runs = runs; steps = steps_join_in_any_order c.law_steps_interleave.ensures.steps runs }
