use Rattle.std.proofs.Common.{◌≡◌, ◌*◌, map}
use Rattle.std.specs.List.{range_with_len}
use Rattle.fl_cores_file.specs.Reports.{both_of}
use Rattle.fl_cores_jobs.specs.State.{joined_of}
use Rattle.fl_cores_fork.specs.CoreThreads.{outcome_of}
use Rattle.fl_cores_fork.specs.Tells.{both_at, made_at}
use Rattle.fl_cores_fork.specs.Taking.{KeepsJobs, with_jobs}
use Rattle.fl_cores_fork.proofs.telling.all_made.Given as goal

-- the bindings so far; and the jobs of those that are left are as they were
abbrev pub invariant-loop-binding : goal.invariant-loop-binding
invariant-loop-binding l = record {
  made : map both_of l.all.items ≡ map (both_at (made_at (with_jobs l.fn.jobs.items (joined_of l.joined)) (map outcome_of l.done))) (range_with_len 0 l.binding);
  rest : KeepsJobs (2 * l.binding) l.fn.jobs.items l.jobs.items;
}
