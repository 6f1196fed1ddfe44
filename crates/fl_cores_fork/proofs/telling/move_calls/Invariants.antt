use Rattle.std.proofs.Common.{◌≡◌, ◌++◌, map, drop}
use Rattle.fl_value_data.specs.Value.{call_of}
use Rattle.fl_core.specs.Jobs.{calls_of_jobs}
use Rattle.fl_cores_fork.specs.Taking.{KeepsOthers}
use Rattle.fl_cores_fork.proofs.telling.move_calls.Given as goal

-- the calls so far, and those of the places that are left, where jobs are as they were
abbrev pub invariant-loop-k : goal.invariant-loop-k
invariant-loop-k l = record {
  moved : map call_of l.calls.items ++ calls_of_jobs l.fn.jobs.items (drop l.k l.places) ≡ calls_of_jobs l.fn.jobs.items l.places;
  rest : KeepsOthers l.places l.k l.fn.jobs.items l.jobs.items;
}
