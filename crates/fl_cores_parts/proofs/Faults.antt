-- Why a run ends without a report.
use Rattle.std.proofs.Common.{List, inl, inr}
use Rattle.fl_cores_file.specs.Jobs.{Job}
use Rattle.fl_world_refines.specs.declared.parts.Parts.{Parts}
use Rattle.fl_cores_jobs.specs.Whole.{NoneRefused, IsFault}
use Rattle.fl_cores_jobs.specs.declared.fault.JobFault.{JobFault}
use Rattle.fl_cores_jobs.specs.declared.fault.JobFault.TheVariants as job
use Rattle.fl_cores_fork.specs.declared.no_report.NoReport.{NoReport}
use Rattle.fl_cores_fork.specs.declared.no_report.NoReport.TheVariants as stop
use Rattle.fl_cores_parts.specs.Faults.{by_job, by_stop, IsRunFault}

pub job_refused : (p : Parts) (jobs : List Job) (f : JobFault) → IsFault p jobs f → IsRunFault p jobs (by_job f)
job_refused p jobs (job.Refused number place) is = is
job_refused p jobs job.Memory is = inl is

pub run_stopped : (p : Parts) (jobs : List Job) (s : NoReport) → NoneRefused p jobs → IsRunFault p jobs (by_stop s)
run_stopped p jobs stop.Memory none = inr none
run_stopped p jobs stop.Thread none = none

-- why there is none
pub ruleset no_report = (job_refused, run_stopped)
