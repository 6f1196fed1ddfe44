-- `complete` comes only where all that was handed in was handled, but on bindings that are named as refused. Laws.
use Rattle.std.specs.Prelude.{ℕ, ◌≡◌, ◌≢◌, ◌≤◌, List, length, slice_get, Some, None}
use Rattle.fl_base.specs.declared.identity.EndId.{EndId}
use Rattle.fl_ring.specs.SharedSides.{TheSide}
use Rattle.fl_core.specs.declared.core_job.CoreJob.{CoreJob}
use Rattle.fl_core_run.specs.declared.opening_status.OpeningStatus.TheVariants.{Refused}
use Rattle.fl_core_run.specs.Run.{TheRun}
use Rattle.fl_core_run.specs.OpeningStatus.{refusal_at}
use Rattle.fl_core_run.specs.Ran.{SomeTurns}
use Rattle.fl_base.specs.Ends.{peer}
use Rattle.fl_base.specs.Prefix.{IsPrefix}
use Rattle.fl_cores_file.specs.Jobs.{Job, handed_in}
use Rattle.fl_cores_file.specs.Report.{TheReport, complete, at_end, refusal_of, Honest, AllHandled}
use Rattle.fl_cores_jobs.specs.State.{TheJoinedJobs}
use Rattle.fl_cores_laws.specs.EndedCores.{shared_ways, OneCore}
use Rattle.fl_cores_laws.specs.EndedBegins.{Ran}

-- ---- refusals that cores knew of

-- at the point where its counted turns came to an end, the core knew that the opening of this end's binding was refused
pub record Knows (c : OneCore) (e : EndId) : Type 0 where
  pub place : ℕ
  pub end_is : slice_get c.plan.ends.items place ≡ Some e
  pub number : ℕ
  pub word_is : slice_get c.point.run_seat.words place ≡ Some (Refused number)

-- a refusal that stood at an end's progress at some point of the core's turns stands there in the end
abbrev pub RefusalsStay : List CoreJob → OneCore → Type 0
RefusalsStay jobs c = (m : TheRun TheSide) (e : EndId) → SomeTurns shared_ways c.plan jobs c.begin.run m → SomeTurns shared_ways c.plan jobs m c.finish
    → refusal_at m e ≢ 0 → refusal_at c.finish e ≢ 0

abbrev pub RunsKeepRefusals : Type 0
RunsKeepRefusals = (asked : List Job) (j : TheJoinedJobs) (limit : ℕ) (cores : List OneCore) (r : TheReport) → Ran asked j limit cores r
    → (n : ℕ) (c : OneCore) → slice_get cores n ≡ Some c → RefusalsStay j.jobs c

-- the report names each binding of which a core knew that
abbrev pub AreNamed : List OneCore → TheReport → Type 0
AreNamed cores r = (n : ℕ) (c : OneCore) (e : EndId) → slice_get cores n ≡ Some c → Knows c e → refusal_of r e.binding ≢ None

-- so it is of each run
abbrev pub RefusalsAreNamed : Type 0
RefusalsAreNamed = (asked : List Job) (j : TheJoinedJobs) (limit : ℕ) (cores : List OneCore) (r : TheReport) → Ran asked j limit cores r
    → AreNamed cores r

-- ---- what `complete` says

-- at an end as many calls were handled as are handed in for it, or more
abbrev pub AsManyHandled : List Job → TheReport → EndId → Type 0
AsManyHandled asked r e = length (handed_in asked (peer e)) ≤ length (at_end r.handled e)

-- then it is so of a report that is complete, where the binding isn't named as refused
abbrev pub CompleteHasAsMany : Type 0
CompleteHasAsMany = (asked : List Job) (j : TheJoinedJobs) (limit : ℕ) (cores : List OneCore) (r : TheReport) → Ran asked j limit cores r
    → r.ending ≡ complete → (e : EndId) → refusal_of r e.binding ≡ None → AsManyHandled asked r e

-- what is told of an end is the first of what is handed in for it; so it is of each in an honest report
abbrev pub IsFirst : List Job → TheReport → EndId → Type 0
IsFirst asked r e = IsPrefix (at_end r.handled e) (handed_in asked (peer e))

-- then just that was handled
abbrev pub CompleteHasThese : Type 0
CompleteHasThese = (asked : List Job) (j : TheJoinedJobs) (limit : ℕ) (cores : List OneCore) (r : TheReport) → Ran asked j limit cores r
    → r.ending ≡ complete → (e : EndId) → IsFirst asked r e → refusal_of r e.binding ≡ None → at_end r.handled e ≡ handed_in asked (peer e)

-- so all was handled, where the report is honest
abbrev pub CompleteHasAll : Type 0
CompleteHasAll = (asked : List Job) (j : TheJoinedJobs) (limit : ℕ) (cores : List OneCore) (r : TheReport) → Ran asked j limit cores r
    → Honest asked r → r.ending ≡ complete → AllHandled asked r
