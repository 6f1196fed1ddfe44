use Rattle.fl_cores_whole.proofs.Whole.{steps_join}
use Rattle.fl_cores_whole.proofs.law.law_steps_join.Goals as goal

pub returns : goal.returns
returns c = record { steps = steps_join c.law_steps_interleave.ensures.steps c.law_reports_join.ensures.runs }
