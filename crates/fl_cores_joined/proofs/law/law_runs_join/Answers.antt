use Rattle.fl_cores_joined.proofs.Runs.{runs_join}
use Rattle.fl_cores_joined.proofs.law.law_runs_join.Goals as goal

pub returns : goal.returns
returns c = record { runs = runs_join c.law_steps_agree.ensures.agree }
