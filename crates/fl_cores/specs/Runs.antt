-- The cores of a run, each as it began, by what happened there, and as it ended.
use Rattle.std.specs.Prelude.{◌≡◌, List, [], ◌∷◌}
use Rattle.fl_core.specs.declared.core_job.CoreJob.{CoreJob}
use Rattle.fl_core_run_laws.specs.Logs.{Goes}
use Rattle.fl_cores_laws.specs.Cores.{shared_ways, OneCore}
use Rattle.fl_cores_fork.specs.Runs.{TheFinishedCore, TheCoreThread}

-- a core's run, from what it was given to what came of it
pub record IsRun (jobs : List CoreJob) (s : TheCoreThread) (o : TheFinishedCore) (c : OneCore) : Type 0 where
  pub start : c.start ≡ s.run
  pub finish : c.finish ≡ o.run
  pub goes : Goes shared_ways jobs c.start c.log c.finish

-- of each of these
abbrev pub AreRuns : List CoreJob → List TheCoreThread → List TheFinishedCore → List OneCore → Type 0
AreRuns jobs [] [] [] = Unit {0}
AreRuns jobs (s ∷ core_threads) (o ∷ outcomes) (c ∷ cores) = IsRun jobs s o c × AreRuns jobs core_threads outcomes cores
AreRuns jobs core_threads outcomes cores = ⊥
