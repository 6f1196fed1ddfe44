-- The calls that an end made, and the jobs that they were. Laws.
use Rattle.std.specs.Prelude.{◌≡◌, if◌then◌else◌, List, [], ◌∷◌, ◌++◌, take, slice_get, Option, Some, None, IsSome, Result, Ok, Err}
use Rattle.fl_base.specs.declared.identity.EndId.{EndId}
use Rattle.fl_base.specs.Prefix.{IsPrefix}
use Rattle.fl_base.specs.Given.{given}
use Rattle.fl_value_data.specs.Value.{TheCall}
use Rattle.fl_endpoint.specs.declared.fault.EndFault.{EndFault}
use Rattle.fl_hop.specs.Stretch.{same_end}
use Rattle.fl_core.specs.declared.core_job.CoreJob.{CoreJob}
use Rattle.fl_core_run.specs.EndProgress.{TheEndProgress, progress_place}
use Rattle.fl_core_run.specs.Run.{SideRelations, TheRun}
use Rattle.fl_core_run.specs.LogEntries.{LogEntry, called}
use Rattle.fl_core.specs.Jobs.{calls_of_jobs}
use Rattle.fl_core_run_laws.specs.Logs.{Goes}

-- the calls that the end of a name made by one event, and in a log
abbrev pub made_by : TheCall → Result (Unit {0}) EndFault → List TheCall
made_by c (Ok done) = c ∷ []
made_by c (Err fault) = []

abbrev pub made_in : EndId → LogEntry → List TheCall
made_in name (called e c answer) = if same_end e name then made_by c answer else []
made_in name log_entry = []

abbrev pub made_at : EndId → List LogEntry → List TheCall
made_at name [] = []
made_at name (log_entry ∷ log) = made_in name log_entry ++ made_at name log

-- those of an end's progress's jobs, and those of its jobs that are done
abbrev pub handed_at : List CoreJob → Option TheEndProgress → List TheCall
handed_at jobs None = []
handed_at jobs (Some progress) = calls_of_jobs jobs progress.jobs

abbrev pub done_at : List CoreJob → Option TheEndProgress → List TheCall
done_at jobs None = []
done_at jobs (Some progress) = calls_of_jobs jobs (take progress.done progress.jobs)

-- of the end's progress of an end: the calls that were handed in for it, and those that were made
abbrev pub progress_of : {S : Type 0} → TheRun S → EndId → Option TheEndProgress
progress_of s name = given (progress_place s.progresses name) None λ n. slice_get s.progresses n

abbrev pub handed_in : {S : Type 0} → List CoreJob → TheRun S → EndId → List TheCall
handed_in jobs s name = handed_at jobs (progress_of s name)

abbrev pub done_of : {S : Type 0} → List CoreJob → TheRun S → EndId → List TheCall
done_of jobs s name = done_at jobs (progress_of s name)

-- an end makes the calls of its jobs, in order: those that its end's progress has as done meanwhile; what is handed in stays
pub record MakesItsJobs {S : Type 0} (jobs : List CoreJob) (name : EndId) (s : TheRun S) (made : List TheCall) (t : TheRun S) : Type 0 where
  pub done : done_of jobs t name ≡ done_of jobs s name ++ made
  pub handed : handed_in jobs t name ≡ handed_in jobs s name

abbrev pub LogsMakeJobs : {S : Type 0} → SideRelations S → Type 0
LogsMakeJobs {S} w = (jobs : List CoreJob) (s t : TheRun S) (log : List LogEntry) (name : EndId) → IsSome (progress_place s.progresses name)
    → Goes w jobs s log t → MakesItsJobs jobs name s (made_at name log) t

-- the calls that were made are the first of those that were handed in
abbrev pub DoneAreFirst : {S : Type 0} → SideRelations S → Type 0
DoneAreFirst {S} w = (jobs : List CoreJob) (s : TheRun S) (name : EndId) → IsPrefix (done_of jobs s name) (handed_in jobs s name)
