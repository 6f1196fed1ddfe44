-- The cores of a run, as they are behind a report of `run_cores`.
use Rattle.std.specs.Prelude.{ℕ, List, [], ◌∷◌}
use Rattle.std.specs.List.{AllZip}
use Rattle.fl_core.specs.declared.core_job.CoreJob.{CoreJob}
use Rattle.fl_core_run.specs.Ran.{moment}
use Rattle.fl_cores_file.specs.Jobs.{Job}
use Rattle.fl_cores_file.specs.Report.{TheReport}
use Rattle.fl_world.specs.Booting.{TheConfig}
use Rattle.fl_cores_jobs.specs.State.{TheJoinedJobs}
use Rattle.fl_cores_laws.specs.EndedCores.{OneCore}
use Rattle.fl_cores_fork.specs.Runs.{TheFinishedCore, TheCoreThread, RanTo}
use Rattle.fl_cores.specs.Promised.{Reports}

-- one core, from what its thread was given to what came of it
abbrev pub core_of : (jobs : List CoreJob) (limit : ℕ) (s : TheCoreThread) (o : TheFinishedCore) → RanTo jobs limit s o → OneCore
core_of jobs limit s o ran = record { plan = s.plan; part = o.part; begin = moment s.run s.run_seat; point = ran.middle; finish = o.run }

-- all of them, in order
abbrev pub cores_of : (jobs : List CoreJob) (limit : ℕ) (core_threads : List TheCoreThread) (outcomes : List TheFinishedCore)
    → AllZip (RanTo jobs limit) core_threads outcomes → List OneCore
cores_of jobs limit [] [] ran = []
cores_of jobs limit [] (o ∷ outcomes) ran = []
cores_of jobs limit (s ∷ core_threads) [] ran = []
cores_of jobs limit (s ∷ core_threads) (o ∷ outcomes) ran = core_of jobs limit s o ran.0 ∷ cores_of jobs limit core_threads outcomes ran.1

module _ {c : TheConfig} {jobs : List Job} {limit : ℕ} {r : TheReport} (w : Reports c jobs limit r) where
  -- the jobs as they were joined to the ends of cores
  abbrev pub joined_in : TheJoinedJobs
  joined_in = w.ran.ran.joined

  abbrev pub cores_in : List OneCore
  cores_in = cores_of joined_in.jobs limit w.ran.ran.ran.core_threads w.ran.ran.ran.outcomes w.ran.ran.ran.ran
