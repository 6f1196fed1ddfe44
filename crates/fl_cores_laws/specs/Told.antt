-- What a report tells of the ends of its bindings.
use Rattle.std.specs.Prelude.{◌≡◌, List, [], ◌++◌, map, slice_get, Some, None}
use Rattle.std.specs.List.{flat_map}
use Rattle.fl_base.specs.declared.identity.EndId.{EndId}
use Rattle.fl_ring.specs.SharedSides.{TheSide}
use Rattle.fl_value_data.specs.Value.{TheCall, call_of}
use Rattle.fl_core.specs.declared.core_job.CoreJob.{CoreJob}
use Rattle.fl_core_run.specs.Run.{TheRun}
use Rattle.fl_core_run.specs.Accepted.{count_waiting, accepted_of}
use Rattle.fl_core_run_laws.specs.Logs.{handled_of}
use Rattle.fl_core_run_laws.specs.Made.{done_of}
use Rattle.fl_cores_file.specs.Report.{BothEnds, at_end}
use Rattle.fl_cores_jobs.specs.declared.end_work.BindingCores.{BindingCores}
use Rattle.fl_cores_jobs.specs.EndWork.{TheEndWork, end_work_at, reply_by}
use Rattle.fl_cores_jobs.specs.Joined.{core_of}
use Rattle.fl_cores_jobs.specs.State.{TheJoinedJobs}
use Rattle.fl_cores_laws.specs.Cores.{OneCore}

-- the calls that an end handled, as its end's progress has them in the end
abbrev pub handled_by : TheRun TheSide → EndId → List TheCall
handled_by t e = map call_of (handled_of t e)

-- those that it came to send: the calls of its jobs that are done, and the replies by the rules of its end's work to the calls that it handled
abbrev pub sent_by : List CoreJob → TheEndWork → TheRun TheSide → EndId → List TheCall
sent_by jobs d t e = done_of jobs t e ++ flat_map (reply_by d.rules) (handled_by t e)

-- those that it made: it accepted all of these but the replies that wait
abbrev pub made_by : List CoreJob → TheEndWork → TheRun TheSide → EndId → List TheCall
made_by jobs d t e = accepted_of (count_waiting t e) (sent_by jobs d t e)

-- an end of a binding, and its core
pub record IsOf (j : TheJoinedJobs) (cores : List OneCore) (e : EndId) (c : OneCore) : Type 0 where
  pub bound : BindingCores
  pub bound_is : slice_get j.bindings e.binding ≡ Some bound
  pub core_is : slice_get cores (core_of e.side bound) ≡ Some c

-- these lists tell so of each end, and of no others
pub record AreTold (j : TheJoinedJobs) (cores : List OneCore) (makes handles : List BothEnds) : Type 0 where
  pub handled : (e : EndId) (c : OneCore) → IsOf j cores e c → at_end handles e ≡ handled_by c.finish e
  pub made : (e : EndId) (c : OneCore) → IsOf j cores e c → at_end makes e ≡ made_by j.jobs (end_work_at j.end_works e) c.finish e
  pub no_more : (e : EndId) → slice_get j.bindings e.binding ≡ None → (at_end handles e ≡ []) × (at_end makes e ≡ [])
