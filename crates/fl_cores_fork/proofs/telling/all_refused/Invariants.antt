use Rattle.std.proofs.Common.{◌≡◌, map}
use Rattle.std.specs.List.{range_with_len}
use Rattle.fl_cores_jobs.specs.State.{joined_of}
use Rattle.fl_cores_fork.specs.CoreThreads.{outcome_of}
use Rattle.fl_cores_fork.specs.Tells.{refusal_at}
use Rattle.fl_cores_fork.proofs.telling.all_refused.Given as goal

-- the bindings so far
abbrev pub invariant-loop-binding : goal.invariant-loop-binding
invariant-loop-binding l = l.all.items ≡ map (refusal_at (joined_of l.joined) (map outcome_of l.done)) (range_with_len 0 l.binding)
