use Rattle.fl_cores_whole.proofs.Begin.{handed_out_join}
use Rattle.fl_cores_whole.proofs.Whole.{reports_join}
use Rattle.fl_cores_whole.proofs.law.law_reports_join.Goals as goal

pub returns : goal.returns
returns c = record { runs = reports_join c.law_set_ups_start_fresh.ensures.fresh handed_out_join c.law_runs_join.ensures.runs }
