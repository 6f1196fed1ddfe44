-- Which fault of a run comes of which fault below, and the faults' numbers.
use Rattle.std.specs.Prelude.{ℕ}
use Rattle.fl_world.specs.declared.booting.BootFault.{BootFault}
use Rattle.fl_world.specs.declared.booting.BootFault.TheVariants as boot
use Rattle.fl_cores_jobs.specs.declared.fault.JobFault.{JobFault}
use Rattle.fl_cores_jobs.specs.declared.fault.JobFault.TheVariants as job
use Rattle.fl_cores_parts.specs.declared.fault.RunFault.{RunFault}
use Rattle.fl_cores_parts.specs.declared.fault.RunFault.TheVariants as run
use Rattle.fl_cores.specs.declared.fault.CoresFault.{CoresFault}
use Rattle.fl_cores.specs.declared.fault.CoresFault.TheVariants.{Setup, Job, Memory, Thread}

abbrev pub by_boot : BootFault → CoresFault
by_boot (boot.Refused number place) = Setup number place
by_boot boot.Memory = Memory

abbrev pub by_run : RunFault → CoresFault
by_run (run.Refused number place) = Job number place
by_run run.Memory = Memory
by_run run.Thread = Thread

abbrev pub by_joining : JobFault → CoresFault
by_joining (job.Refused number place) = Job number place
by_joining job.Memory = Memory

-- the fault's number; of a thread that doesn't start the program's status
abbrev pub number_of : CoresFault → ℕ
number_of (Setup number place) = number
number_of (Job number place) = number
number_of Memory = 99
number_of Thread = 3
