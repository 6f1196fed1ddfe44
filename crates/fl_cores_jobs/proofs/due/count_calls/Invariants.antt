use Rattle.std.proofs.Common.{◌≡◌, ◌≤◌, ◌+◌, length, drop}
use Rattle.fl_core.specs.Jobs.{calls_of_jobs}
use Rattle.fl_cores_jobs.proofs.due.count_calls.Given as goal

abbrev pub invariant-loop-k : goal.invariant-loop-k
invariant-loop-k l = record {
  rest : l.count + length (calls_of_jobs l.jobs (drop l.k l.places)) ≡ length (calls_of_jobs l.jobs l.places);
  few : l.count ≤ l.k;
}
