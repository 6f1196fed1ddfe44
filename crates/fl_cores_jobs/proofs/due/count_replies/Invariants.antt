use Rattle.std.proofs.Common.{◌≡◌, ◌≤◌, ◌+◌, length, drop}
use Rattle.std.specs.List.{flat_map}
use Rattle.fl_core.specs.Jobs.{calls_of_jobs}
use Rattle.fl_cores_jobs.specs.EndWork.{reply_by}
use Rattle.fl_cores_jobs.proofs.due.count_replies.Given as goal

abbrev pub invariant-loop-k : goal.invariant-loop-k
invariant-loop-k l = record {
  rest : l.count + length (flat_map (reply_by l.rules) (calls_of_jobs l.jobs (drop l.k l.places))) ≡ length (flat_map (reply_by l.rules) (calls_of_jobs l.jobs l.places));
  few : l.count ≤ l.k;
}
