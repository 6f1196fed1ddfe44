-- With what cores begin, and what a report tells of their ends' progress.
use Rattle.std.specs.Prelude.{ℕ, ◌≡◌, ◌⊎◌, ◌<◌, ◌==◌, if◌then◌else◌, List, [], ◌++◌, map, take, length, slice_get, Option, Some, None}
use Rattle.std.specs.List.{flat_map}
use Rattle.fl_base.specs.declared.identity.EndId.{EndId}
use Rattle.fl_base.specs.declared.identity.Side.{Side}
use Rattle.fl_base.specs.declared.identity.Side.TheVariants.{Client, Server}
use Rattle.fl_base.specs.Given.{given}
use Rattle.fl_value_data.specs.Value.{call_of}
use Rattle.fl_hop.specs.Table.{hop_at}
use Rattle.fl_monitor.specs.Monitors.{waiting_for}
use Rattle.fl_core.specs.declared.wiring.WiredEnd.{WiredEnd}
use Rattle.fl_core.specs.View.{client_of, place_of, arrivals_by}
use Rattle.fl_core_run.specs.declared.opening_status.OpeningStatus.{OpeningStatus}
use Rattle.fl_core_run.specs.declared.opening_status.OpeningStatus.TheVariants.{Silent, Tells, Hears}
use Rattle.fl_core_run.specs.EndProgress.{TheEndProgress}
use Rattle.fl_core.specs.Jobs.{calls_of_jobs}
use Rattle.fl_core_run.specs.OpeningStatus.{refusal_at, word_by}
use Rattle.fl_core_run.specs.Accepted.{count_waiting, accepted_of}
use Rattle.fl_core_run_laws.specs.Logs.{handled_of}
use Rattle.fl_core_run_laws.specs.Made.{progress_of}
use Rattle.fl_cores_file.specs.Jobs.{Job}
use Rattle.fl_cores_file.specs.Report.{TheReport, at_end, refusal_of}
use Rattle.fl_cores_jobs.specs.declared.end_work.BindingCores.{BindingCores}
use Rattle.fl_cores_jobs.specs.EndWork.{end_work_at, reply_by}
use Rattle.fl_cores_jobs.specs.Joined.{core_at}
use Rattle.fl_cores_jobs.specs.State.{TheJoinedJobs, AreJoined}
use Rattle.fl_cores_jobs.specs.Whole.{AreDue}
use Rattle.fl_cores_laws.specs.EndedCores.{OneCore, AllWent}
use Rattle.fl_cores_laws.specs.EndedTurns.{TellsTurns}
use Rattle.fl_cores_laws.specs.EndedHeard.{HeardIsTold}

-- ---- whose an end is, and its word

-- the client's core tells of the binding's opening, and the server's hears of it
abbrev pub word_at : Side → BindingCores → OpeningStatus
word_at Client b = word_by Tells b.opened
word_at Server b = word_by Hears b.opened

abbrev pub word_of : List BindingCores → EndId → OpeningStatus
word_of bindings e = given (slice_get bindings e.binding) Silent (word_at e.side)

-- ---- as cores begin

-- the end's progress, with the jobs of its end's work: so many calls are to be handled there as that has, and none was
pub record HasProgress (j : TheJoinedJobs) (c : OneCore) (e : EndId) : Type 0 where
  pub progress : TheEndProgress
  pub progress_is : progress_of c.begin.run e ≡ Some progress
  pub jobs : progress.jobs ≡ (end_work_at j.end_works e).jobs
  pub due : progress.due ≡ (end_work_at j.end_works e).due
  pub none_handled : progress.handled ≡ []

-- no job of this end's progress is done, of which there are those of its end's work or none; and no refusal stands there
pub record IsUntouched (j : TheJoinedJobs) (e : EndId) (d : TheEndProgress) : Type 0 where
  pub jobs : (d.jobs ≡ (end_work_at j.end_works e).jobs) ⊎ (d.jobs ≡ [])
  pub done : d.done ≡ 0
  pub refused : d.refused ≡ 0

-- core n has just its own ends in its plan, each with its word and with an end's progress; its seat told nothing yet, no end's
-- progress was touched, and no number of a link leads anywhere
pub record Begins (j : TheJoinedJobs) (n : ℕ) (c : OneCore) : Type 0 where
  pub ends : (e : EndId) → core_at j.bindings e ≡ Some n → (k : ℕ) × (slice_get c.plan.ends.items k ≡ Some e)
  pub own : (k : ℕ) (e : EndId) → slice_get c.plan.ends.items k ≡ Some e → core_at j.bindings e ≡ Some n
  pub progresses : (e : EndId) → core_at j.bindings e ≡ Some n → HasProgress j c e
  pub words : (k : ℕ) (e : EndId) → slice_get c.plan.ends.items k ≡ Some e → slice_get c.begin.run_seat.words k ≡ Some (word_of j.bindings e)
  pub silent : c.begin.run_seat.seat.knows.stored ≡ []
  pub untouched : (e : EndId) (d : TheEndProgress) → progress_of c.begin.run e ≡ Some d → IsUntouched j e d
  -- no end is one of a circuit, and none of a binding that a job opens is there yet; the monitor has nothing to say
  pub off_links : (e : EndId) (place : ℕ) (p : WiredEnd) → place_of c.begin.run.core e ≡ Some place → slice_get c.begin.run.core.wired_ends place ≡ Some p
      → arrivals_by p.wiring ≡ None
  pub absent : (e : EndId) (b : BindingCores) (job : ℕ) → slice_get j.bindings e.binding ≡ Some b → b.opened ≡ Some job → place_of c.begin.run.core e ≡ None
  pub quiet : (l : ℕ) → waiting_for c.begin.run.core.monitor.outboxes l ≡ []
  pub idle : (l n : ℕ) → l < length c.begin.run.core.link_sides → hop_at c.begin.run.core.monitor.circuits l n ≡ None

-- ---- what is told

-- the number of a refusal, where it isn't 0
abbrev pub refusal_by : ℕ → Option ℕ
refusal_by number = if number == 0 then None else Some number

-- of each end the calls that its end's progress has as handled, and those that it made, and of each binding the refusal at the
-- client's end's progress; and of no others
pub record TellsProgress (j : TheJoinedJobs) (cores : List OneCore) (r : TheReport) : Type 0 where
  pub handled : (e : EndId) (n : ℕ) (c : OneCore) → core_at j.bindings e ≡ Some n → slice_get cores n ≡ Some c
      → at_end r.handled e ≡ map call_of (handled_of c.finish e)
  -- what an end made: the calls of its end's work's jobs that are done, and the replies by its rules to the calls that it handled, but for those that wait
  pub made : (e : EndId) (n : ℕ) (c : OneCore) (d : TheEndProgress) → core_at j.bindings e ≡ Some n → slice_get cores n ≡ Some c
      → progress_of c.finish e ≡ Some d
      → at_end r.made e ≡ accepted_of (count_waiting c.finish e) (calls_of_jobs j.jobs (take d.done (end_work_at j.end_works e).jobs)
      ++ flat_map (reply_by (end_work_at j.end_works e).rules) (map call_of (handled_of c.finish e)))
  pub refused : (n : ℕ) (b : BindingCores) (c : OneCore) → slice_get j.bindings n ≡ Some b → slice_get cores b.client ≡ Some c
      → refusal_of r n ≡ refusal_by (refusal_at c.finish (client_of n))
  pub unmade : (e : EndId) (n : ℕ) (c : OneCore) → core_at j.bindings e ≡ Some n → slice_get cores n ≡ Some c → progress_of c.finish e ≡ None
      → at_end r.made e ≡ []
  pub no_more : (e : EndId) → slice_get j.bindings e.binding ≡ None → at_end r.handled e ≡ []
  pub no_refusal : (n : ℕ) → slice_get j.bindings n ≡ None → refusal_of r n ≡ None

-- ---- the whole

-- cores ran the jobs that were joined for them, what they heard of refused openings was told, and a report tells what came of it
pub record Ran (asked : List Job) (j : TheJoinedJobs) (limit : ℕ) (cores : List OneCore) (r : TheReport) : Type 0 where
  pub joined : AreJoined (length cores) asked j
  pub due : AreDue asked j
  pub begins : (n : ℕ) (c : OneCore) → slice_get cores n ≡ Some c → Begins j n c
  pub went : AllWent j.jobs limit cores
  pub heard : HeardIsTold j cores
  pub turns : TellsTurns cores r
  pub progresses : TellsProgress j cores r
