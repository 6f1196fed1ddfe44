-- A core's log: what happened there, event by event. Laws.
use Rattle.std.specs.Prelude.{ℕ, ◌≡◌, ◌≢◌, ◌+◌, ◌≤◌, ◌==◌, if◌then◌else◌, true, false, List, [], ◌∷◌, ◌++◌, slice_get, Option, Some, None, IsSome, Ok}
use Rattle.fl_base.specs.declared.fragment.Frag.{Frag}
use Rattle.fl_base.specs.declared.identity.EndId.{EndId}
use Rattle.fl_base.specs.declared.identity.LinkId.{LinkId}
use Rattle.fl_base.specs.declared.identity.Circuit.{Circuit}
use Rattle.fl_base.specs.Control.{circuit_of}
use Rattle.fl_base.specs.Given.{given}
use Rattle.fl_value_data.specs.declared.value.Call.{Call}
use Rattle.fl_core.specs.declared.turn_answer.TurnAnswer.{TurnAnswer}
use Rattle.fl_core.specs.declared.turn_answer.TurnAnswer.TheVariants.{Handle}
use Rattle.fl_link.specs.Looks.{Look, Looks, LinkStep, puts_of, takes_of}
use Rattle.fl_hop.specs.declared.entry.HopTarget.{HopTarget}
use Rattle.fl_hop.specs.declared.entry.HopTarget.TheVariants.{Link, End}
use Rattle.fl_hop.specs.Forward.{IsOther}
use Rattle.fl_hop.specs.Later.{way_at}
use Rattle.fl_hop.specs.Stretch.{same_end}
use Rattle.fl_core.specs.declared.answer.LinkFront.TheVariants.{Message, Onward, Arrival}
use Rattle.fl_core.specs.View.{place_of, side_of_link}
use Rattle.fl_core.specs.declared.core_job.CoreJob.{CoreJob}
use Rattle.fl_core.specs.declared.core_job.CoreJob.TheVariants as job
use Rattle.fl_core_run.specs.declared.lent.LentTakeEnd.{LentTakeEnd}
use Rattle.fl_core_run.specs.declared.lent.LentPutEnd.{LentPutEnd}
use Rattle.fl_core_run.specs.declared.lent.LentRingEnd.{LentRingEnd}
use Rattle.fl_core_run.specs.declared.plan.TurnPlan.{TurnPlan}
use Rattle.fl_core_run.specs.declared.run.Part.{Part}
use Rattle.fl_core_run.specs.EndProgress.{TheEndProgress, progress_place}
use Rattle.fl_core_run.specs.Run.{SideRelations, TheRun, next_job, lent_link_side, lent_post, lent_due, lent_ring_end}
use Rattle.fl_core_run.specs.LogEntries.{LogEntry, looked, passed, arrived, heard, said, told, opened, called, ruled, wrote, acked, turned, Happens}
use Rattle.fl_core_run.specs.Steps.{may_ask, awaits}
use Rattle.fl_core_run.specs.Turn.{Turned}
use Rattle.fl_core_run.specs.Ran.{RunTask, RunMoment, Counted}
use Rattle.fl_core.specs.Jobs.{calls_of_job}

-- the fragment stands on a link under a number that leads this way, as the core's table has it
pub record LeadsTo {S : Type 0} (s : TheRun S) (n : ℕ) (l : LinkId) (frag : Frag) (way : HopTarget) : Type 0 where
  pub link_side : lent_link_side s l ≡ Some n
  pub number : circuit_of frag.control ≢ 0
  pub way_is : way_at s.core.monitor.circuits l.0 (circuit_of frag.control) ≡ Some way
  pub other : IsOther s.core.monitor.circuits l.0 way

-- it goes on under number c over side m, which is another link's
pub record GoesOnOver {S : Type 0} (s : TheRun S) (n m : ℕ) (frag : Frag) (c : Circuit) : Type 0 where
  pub link : LinkId
  pub onward : LinkId
  pub leads : LeadsTo s n link frag (Link onward c)
  pub side : side_of_link s.core.link_sides onward.0 ≡ Some m

-- what happens there is in its place: over the side of its link, as the table of circuits leads, for the next job of its end, to and from where its end
-- puts and takes, and at an end that waits for nothing
abbrev pub InPlace : {S : Type 0} → List CoreJob → TheRun S → LogEntry → Type 0
InPlace jobs s (looked n l answer) = lent_link_side s l ≡ Some n
InPlace jobs s (passed n m frag c outcome) = GoesOnOver s n m frag c
InPlace jobs s (arrived n l frag e answer) = LeadsTo s n l frag (End e)
InPlace jobs s (heard n l frag answer) = (lent_link_side s l ≡ Some n) × (circuit_of frag.control ≡ 0)
InPlace jobs s (said n l answer) = lent_link_side s l ≡ Some n
InPlace jobs s (told n l answer) = lent_link_side s l ≡ Some n
InPlace jobs s (opened name request answer) = (next_job jobs s name ≡ Some (job.Open request)) × (may_ask s request ≡ true)
InPlace jobs s (called name c answer) = calls_of_job (next_job jobs s name) ≡ c ∷ []
InPlace jobs s (ruled name msg reply answer) = (e : EndId) × (next_job jobs s name ≡ Some (job.Reply e msg reply))
InPlace jobs s (wrote name out answer) = (post : LentPutEnd) × (lent_post s name ≡ Some post) × (post.outlet ≡ out)
InPlace jobs s (acked name n answer) = (ring_end : LentRingEnd) × (lent_ring_end s name ≡ Some ring_end) × (ring_end.side ≡ n)
InPlace jobs s (turned d name from answer) =
    (due : LentTakeEnd) × (lent_due s d ≡ Some due) × (place_of s.core name ≡ Some due.end) × (due.inlet ≡ from) × (awaits jobs s name ≡ false)

-- the events of a log, one after another
abbrev pub Goes : {S : Type 0} → SideRelations S → List CoreJob → TheRun S → List LogEntry → TheRun S → Type 0
Goes w jobs s [] t = t ≡ s
Goes {S} w jobs s (log_entry ∷ log) t = (m : TheRun S) × Happens w log_entry s m × InPlace jobs s log_entry × Goes w jobs m log t

-- where it deals with what stands first on a link, the event directly before it is the look that found that
abbrev pub IsSeen : Option LogEntry → LogEntry → Type 0
IsSeen before (passed n m frag c outcome) = (l : LinkId) × (before ≡ Some (looked n l (Ok (Onward frag m c))))
IsSeen before (arrived n l frag e answer) = before ≡ Some (looked n l (Ok (Arrival frag e)))
IsSeen before (heard n l frag answer) = before ≡ Some (looked n l (Ok (Message frag)))
IsSeen before log_entry = Unit {0}

-- so it is of all events of a log, the first of which comes behind this one, or is its core's first
abbrev pub AreSeen : Option LogEntry → List LogEntry → Type 0
AreSeen before [] = Unit {0}
AreSeen before (log_entry ∷ log) = IsSeen before log_entry × AreSeen (Some log_entry) log

-- how many calls the dispatcher of a place handled by one event, and in a log
abbrev pub handled_by : ℕ → TurnAnswer → ℕ
handled_by one (Handle call) = one
handled_by one answer = 0

abbrev pub handles_in : ℕ → LogEntry → ℕ
handles_in d (turned e name from answer) = if e == d then handled_by 1 answer else 0
handles_in d log_entry = 0

abbrev pub handles : ℕ → List LogEntry → ℕ
handles d [] = 0
handles d (log_entry ∷ log) = handles_in d log_entry + handles d log

-- what happened from one moment to another, where no dispatcher handled more calls than this
pub record Logged {S : Type 0} (w : SideRelations S) (jobs : List CoreJob) (most : ℕ → ℕ) (s t : TheRun S) : Type 0 where
  pub log : List LogEntry
  pub goes : Goes w jobs s log t
  pub few : (d : ℕ) → handles d log ≤ most d
  pub seen : AreSeen None log

-- all that changes a core in its turns is in a log, each look directly before what is made of it, and no dispatcher handles more calls than turns were
-- taken
abbrev pub TurnsAreLogged : {S : Type 0} → SideRelations S → Type 0
TurnsAreLogged {S} w = (plan : TurnPlan) (jobs : List CoreJob) (k : ℕ) (s t : TheRun S) → Turned w plan jobs k s t → Logged w jobs (λ d. k) s t

-- counted turns are turns
abbrev pub CountedAreTurns : {S : Type 0} → SideRelations S → Type 0
CountedAreTurns {S} w = (t : RunTask) (a b : RunMoment S) (part : Part) → Counted w t a part b → Turned w t.plan t.jobs part.turns a.run b.run

-- ---- what came of it at the ends' progress

-- the calls that the end of a name handled by one event, and in a log
abbrev pub call_in : TurnAnswer → List Call
call_in (Handle call) = call ∷ []
call_in answer = []

abbrev pub handled_in : EndId → LogEntry → List Call
handled_in name (turned d e from answer) = if same_end e name then call_in answer else []
handled_in name log_entry = []

abbrev pub handled_at : EndId → List LogEntry → List Call
handled_at name [] = []
handled_at name (log_entry ∷ log) = handled_in name log_entry ++ handled_at name log

-- the calls that its end's progress has as handled
abbrev pub in_progress : Option TheEndProgress → List Call
in_progress None = []
in_progress (Some progress) = progress.handled

abbrev pub handled_of : {S : Type 0} → TheRun S → EndId → List Call
handled_of s name = given (progress_place s.progresses name) [] λ n. in_progress (slice_get s.progresses n)

-- what an end's progress has as handled is just what its end handled
abbrev pub ProgressTellHandled : {S : Type 0} → SideRelations S → Type 0
ProgressTellHandled {S} w = (jobs : List CoreJob) (s t : TheRun S) (log : List LogEntry) (name : EndId) → IsSome (progress_place s.progresses name)
    → Goes w jobs s log t → handled_of t name ≡ handled_of s name ++ handled_at name log

-- ---- sides

-- looks, puts and takes led from one state of a side to another
abbrev pub Looked : {S : Type 0} → (S → Look → S → Type 0) → (S → Look → S → Type 0) → S → S → Type 0
Looked puts takes p q = (looks : List Look) × Looks (LinkStep puts takes) p looks q

-- over looks, puts and takes a side placed these fragments, and took these
pub record Carries {S : Type 0} (puts takes : S → Look → S → Type 0) (put took : List Frag) (p q : S) : Type 0 where
  pub looks : List Look
  pub led : Looks (LinkStep puts takes) p looks q
  pub put_is : puts_of looks ≡ put
  pub took_is : takes_of looks ≡ took

-- each of these sides stands at its place afterwards, and changed by looks, puts and takes alone
abbrev pub SidesGo : {S : Type 0} → (S → Look → S → Type 0) → (S → Look → S → Type 0) → List S → List S → Type 0
SidesGo {S} puts takes ps qs = (n : ℕ) (p : S) → slice_get ps n ≡ Some p → (q : S) × (slice_get qs n ≡ Some q) × Looked puts takes p q

-- whatever happens at a core, its sides of rings change so
abbrev pub LogsLook : {S : Type 0} → SideRelations S → Type 0
LogsLook {S} w = (jobs : List CoreJob) (s t : TheRun S) (log : List LogEntry) → Goes w jobs s log t → SidesGo w.puts w.takes s.rings t.rings
