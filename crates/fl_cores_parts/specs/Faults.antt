-- Which fault of a run comes of which fault below, the faults' numbers, and why there is one. The public promise rests on `IsRunFault`.
use Rattle.std.specs.Prelude.{ℕ, List, ◌⊎◌}
use Rattle.fl_cores_file.specs.Jobs.{Job}
use Rattle.fl_world_refines.specs.declared.parts.Parts.{Parts}
use Rattle.fl_cores_jobs.specs.Whole.{NoneRefused, IsFault}
use Rattle.fl_cores_jobs.specs.declared.fault.JobFault.{JobFault}
use Rattle.fl_cores_jobs.specs.declared.fault.JobFault.TheVariants as job
use Rattle.fl_cores_fork.specs.declared.no_report.NoReport.{NoReport}
use Rattle.fl_cores_fork.specs.declared.no_report.NoReport.TheVariants as stop
use Rattle.fl_cores_parts.specs.declared.fault.RunFault.{RunFault}
use Rattle.fl_cores_parts.specs.declared.fault.RunFault.TheVariants.{Refused, Memory, Thread}

abbrev pub by_job : JobFault → RunFault
by_job (job.Refused number place) = Refused number place
by_job job.Memory = Memory

abbrev pub by_stop : NoReport → RunFault
by_stop stop.Memory = Memory
by_stop stop.Thread = Thread

-- the fault's number; of a thread that doesn't start the program's status, which is no E3
abbrev pub number_of : RunFault → ℕ
number_of (Refused number place) = number
number_of Memory = 99
number_of Thread = 3

-- a job is refused only where joining refuses it: it is the first that has a fault, with its number; or, at place 0, a binding of the set-up is. Where
-- memory is wanted in joining a job, none before it has a fault, nor has it, but for one that is found later; none has any where memory is wanted behind
-- joining, or a thread doesn't start
abbrev pub IsRunFault : Parts → List Job → RunFault → Type 0
IsRunFault p jobs (Refused number place) = IsFault p jobs (job.Refused number place)
IsRunFault p jobs Memory = IsFault p jobs job.Memory ⊎ NoneRefused p jobs
IsRunFault p jobs Thread = NoneRefused p jobs
