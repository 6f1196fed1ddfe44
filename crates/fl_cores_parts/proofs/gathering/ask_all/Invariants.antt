use Rattle.fl_cores_parts.proofs.Together.{Asking}
use Rattle.fl_cores_parts.proofs.gathering.ask_all.Given as goal

abbrev pub invariant-loop-job : goal.invariant-loop-job
invariant-loop-job l = Asking l.initial.own.knows l.own.knows l.job
