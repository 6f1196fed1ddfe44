-- What a report tells of what came of the cores of a run.
use Rattle.std.specs.Prelude.{ℕ, ◌≡◌, ◌==◌, Bool, false, if◌then◌else◌, List, [], ◌++◌, map, take, length, slice_get, Option, Some, None}
use Rattle.std.specs.List.{flat_map, list_any, range_with_len}
use Rattle.fl_base.specs.declared.identity.EndId.{EndId}
use Rattle.fl_base.specs.Given.{given}
use Rattle.fl_value_data.specs.Value.{TheCall, call_of}
use Rattle.fl_core.specs.View.{client_of, server_of, slot_of}
use Rattle.fl_core.specs.declared.core_job.CoreJob.{CoreJob}
use Rattle.fl_core_run.specs.EndProgress.{TheEndProgress}
use Rattle.fl_core_run.specs.Accepted.{count_waiting, accepted_of}
use Rattle.fl_core.specs.Jobs.{calls_of_jobs}
use Rattle.fl_cores_jobs.specs.EndWork.{TheEndWork, end_work_at, reply_by}
use Rattle.fl_cores_jobs.specs.Joined.{core_at}
use Rattle.fl_cores_jobs.specs.State.{TheJoinedJobs}
use Rattle.fl_cores_file.specs.Report.{BothEnds, TheReport, complete, turns_out}
use Rattle.fl_core_run.specs.Ran.{is_told, is_unfinished}
use Rattle.fl_cores_fork.specs.Runs.{TheFinishedCore}

-- ---- an end

-- its end's progress, as its core left it
abbrev pub progress_left : TheJoinedJobs → List TheFinishedCore → EndId → Option TheEndProgress
progress_left j outcomes e =
    given (core_at j.bindings e) None λ core.
    given (slice_get outcomes core) None λ o.
    slice_get o.run.progresses (slot_of e)

-- the calls that an end handled
abbrev pub handled_by : TheEndProgress → List TheCall
handled_by d = map call_of d.handled

-- those that it came to send: of its end's work's jobs that are done, and the replies by its rules to those that it handled
abbrev pub sent_by : List CoreJob → TheEndWork → TheEndProgress → List TheCall
sent_by jobs end_work d = calls_of_jobs jobs (take d.done end_work.jobs) ++ flat_map (reply_by end_work.rules) (handled_by d)

abbrev pub handled_at : TheJoinedJobs → List TheFinishedCore → EndId → List TheCall
handled_at j outcomes e = given (progress_left j outcomes e) [] handled_by

abbrev pub sent_at : TheJoinedJobs → List TheFinishedCore → EndId → List TheCall
sent_at j outcomes e = given (progress_left j outcomes e) [] (sent_by j.jobs (end_work_at j.end_works e))

-- how many replies wait there, as its core left it
abbrev pub waiting_left : TheJoinedJobs → List TheFinishedCore → EndId → ℕ
waiting_left j outcomes e =
    given (core_at j.bindings e) 0 λ core.
    given (slice_get outcomes core) 0 λ o. count_waiting o.run e

-- those that it made: it accepted all that it came to send but the replies that wait
abbrev pub made_at : TheJoinedJobs → List TheFinishedCore → EndId → List TheCall
made_at j outcomes e = accepted_of (waiting_left j outcomes e) (sent_at j outcomes e)

-- ---- a binding

-- the calls of its ends
abbrev pub both_at : (EndId → List TheCall) → ℕ → BothEnds
both_at calls n = record { client = calls (client_of n); server = calls (server_of n) }

-- the number for which its opening was refused, as it stands at the client's end's progress
abbrev pub refusal_in : TheEndProgress → Option ℕ
refusal_in d = if d.refused == 0 then None else Some d.refused

abbrev pub refusal_at : TheJoinedJobs → List TheFinishedCore → ℕ → Option ℕ
refusal_at j outcomes n = given (progress_left j outcomes (client_of n)) None refusal_in

-- of each
abbrev pub by_binding : {A : Type 0} → TheJoinedJobs → (ℕ → A) → List A
by_binding j what = map what (range_with_len 0 (length j.bindings))

-- ---- how the cores ended

abbrev pub turns_in : TheFinishedCore → ℕ
turns_in o = o.part.turns

abbrev pub left_off : TheFinishedCore → Bool
left_off o = is_unfinished o.part.end

abbrev pub was_told : TheFinishedCore → Bool
was_told o = is_told o.part.end

-- ---- a report

pub record Tells (j : TheJoinedJobs) (outcomes : List TheFinishedCore) (r : TheReport) : Type 0 where
  pub made : r.made ≡ by_binding j (both_at (made_at j outcomes))
  pub handled : r.handled ≡ by_binding j (both_at (handled_at j outcomes))
  pub refused : r.refused ≡ by_binding j (refusal_at j outcomes)
  pub turns : r.turns ≡ map turns_in outcomes
  -- no core was told of a stop; and `complete` exactly where none left off
  pub none_told : list_any was_told outcomes ≡ false
  pub ending : r.ending ≡ (if list_any left_off outcomes then turns_out else complete)
