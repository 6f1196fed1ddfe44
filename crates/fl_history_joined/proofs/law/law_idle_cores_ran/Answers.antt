use Rattle.fl_history_joined.proofs.Idle.{idle_cores_ran}
use Rattle.fl_history_joined.proofs.law.law_idle_cores_ran.Goals as goal

pub returns : goal.returns
returns c = record { ran = idle_cores_ran }
