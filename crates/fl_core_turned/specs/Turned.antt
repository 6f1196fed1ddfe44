-- Turns of a core, on its cut: each of their events is the machine's, on the cut that the core showed before
-- it, by what that event's look found, and the core shows behind it what the machine makes of that.
use Rattle.std.specs.Prelude.{ℕ, ◌≡◌, ◌+◌, ◌≤◌, ◌^◌, ◌==◌, ◌&&◌, nat_lt, Bool, false, if◌then◌else◌, List, []}
use Rattle.std.specs.Prelude.{◌∷◌, length}
use Rattle.std.specs.Prelude.{slice_get, Some, Ok}
use Rattle.fl_base.specs.Given.{given}
use Rattle.fl_ring.specs.SharedSeats.{front_seen}
use Rattle.fl_ring.specs.SharedSides.{TheSide}
use Rattle.fl_hop.specs.declared.forward.ForwardOutcome.TheVariants as outcome
use Rattle.fl_endpoint.specs.declared.answer.WriteAnswer.TheVariants as write
use Rattle.fl_core.specs.declared.turn_answer.TurnAnswer.TheVariants as turn
use Rattle.fl_core.specs.declared.turn_answer.AckAnswer.TheVariants as ack
use Rattle.fl_core.specs.declared.answer.LinkFront.TheVariants.{Nothing}
use Rattle.fl_core.specs.declared.answer.MonitorWrite.TheVariants as monitor
use Rattle.fl_core.specs.declared.wiring.Inlet.TheVariants as inlet
use Rattle.fl_core.specs.declared.wiring.Outlet.TheVariants as outlet
use Rattle.fl_core.specs.declared.core_job.CoreJob.{CoreJob}
use Rattle.fl_core_run.specs.declared.plan.TurnPlan.{TurnPlan}
use Rattle.fl_core_run.specs.Run.{SideRelations, TheRun}
use Rattle.fl_core_run.specs.LogEntries.{LogEntry, looked, passed, said, told, wrote, acked, turned, Happens}
use Rattle.fl_core_run.specs.Turn.{Turned}
use Rattle.fl_core_run_laws.specs.Logs.{InPlace}
use Rattle.fl_model.specs.Monitors.{Service}
use Rattle.fl_core_refines.specs.Cut.{CoreCut, ShowsCut}
use Rattle.fl_core_refines.specs.CutDoes.{CutDoes}
use Rattle.fl_core_refines.specs.CutLaws.{shared}
use Rattle.fl_core_turned.specs.TurnEvents.{Event, log_of, events_of}
use Rattle.fl_core_turned.specs.Reasons.{lacks_memory, HasReason}

-- how sides of rings between threads put and take, and what the last look saw
abbrev pub shared_ways : SideRelations TheSide
shared_ways = shared (λ (s : TheSide). front_seen s.peeked)

-- a running core, and the cut that it shows
pub record CutMoment : Type 0 where
  pub run : TheRun TheSide
  pub cut : CoreCut

abbrev pub moment : TheRun TheSide → CoreCut → CutMoment
moment run cut = record { run = run; cut = cut }

-- ---- one event

pub record Follows (services : List Service) (jobs : List CoreJob) (log_entry : LogEntry)
    (a b : CutMoment) : Type 0 where
  -- it happens, in its place, and memory isn't refused to it
  pub happens : Happens shared_ways log_entry a.run b.run
  pub in_place : InPlace jobs a.run log_entry
  pub remembers : lacks_memory log_entry ≡ false
  -- of the cut the machine makes this by it, which the core shows then
  pub does : CutDoes services log_entry a.cut b.cut
  pub reason : HasReason services log_entry a.cut
  pub shows : ShowsCut b.cut b.run

-- ---- events, one after another

-- behind each the core is as it was then, and shows what is made of the cut
abbrev pub AllFollow : List Service → List CoreJob → List (Event TheSide) → CutMoment → CutMoment → Type 0
AllFollow services jobs [] a b = b ≡ a
AllFollow services jobs (x ∷ xs) a b =
    (cut : CoreCut) × Follows services jobs x.log_entry a (moment x.run cut)
    × AllFollow services jobs xs (moment x.run cut) b

-- ---- how often a side was found so

-- an event found nothing at side n, which it leads from p to q. (A polled end that is quiet took a fragment
-- that only acknowledges, or found nothing.)
abbrev pub finds_nothing : ℕ → LogEntry → TheSide → TheSide → Bool
finds_nothing n (looked m l (Ok Nothing)) p q = m == n
finds_nothing n (turned d name (inlet.Side m) turn.Nothing) p q = m == n
finds_nothing n (turned d name (inlet.Side m) turn.Quiet) p q = (m == n) && (length q.got == length p.got)
finds_nothing n log_entry p q = false

-- an event found side n full, but for one that had to acknowledge over a spent ring
abbrev pub is_unspent : TheSide → Bool
is_unspent p = nat_lt (length p.sent) (2 ^ 62)

abbrev pub finds_full : ℕ → LogEntry → TheSide → TheSide → Bool
finds_full n (passed m k frag c outcome.Full) p q = k == n
finds_full n (said m l monitor.Full) p q = m == n
finds_full n (wrote name (outlet.Side m) (Ok write.Full)) p q = m == n
finds_full n (told m l ack.Full) p q = (m == n) && is_unspent p
finds_full n (acked name m (Ok ack.Full)) p q = (m == n) && is_unspent p
finds_full n log_entry p q = false

-- by an event of a core, over its side n
abbrev pub at_side : ℕ → (TheSide → TheSide → Bool) → CutMoment → CutMoment → Bool
at_side n test a b =
    given (slice_get a.run.rings n) false λ p.
    given (slice_get b.run.rings n) false λ q. test p q

-- how many events pass a test
abbrev pub times : (services : List Service) (jobs : List CoreJob) → (LogEntry → CutMoment → CutMoment → Bool)
    → (events : List (Event TheSide)) (a b : CutMoment) → AllFollow services jobs events a b → ℕ
times services jobs test [] a b all = 0
times services jobs test (x ∷ xs) a b all =
    (if test x.log_entry a (moment x.run all.0) then 1 else 0)
    + times services jobs test xs (moment x.run all.0) b all.2

-- of a side: nothing was found at most as often as its misses rose, and it was found full at most as often as
-- its loads rose; what it knows to be acknowledged only rises
pub record Counts (nothing full : ℕ) (p q : TheSide) : Type 0 where
  pub misses : p.misses + nothing ≤ q.misses
  pub loads : p.loads + full ≤ q.loads
  pub known : p.known ≤ q.known

-- ---- turns

-- what turns go over, the jobs, and how many turns
pub record ManyTurns : Type 0 where
  pub plan : TurnPlan
  pub jobs : List CoreJob
  pub turns : ℕ

abbrev pub many : TurnPlan → List CoreJob → ℕ → ManyTurns
many plan jobs turns = record { plan = plan; jobs = jobs; turns = turns }

-- a core took so many turns, with this log, from one moment to another
pub record TurnedBy (services : List Service) (x : ManyTurns) (log : List LogEntry)
    (a b : CutMoment) : Type 0 where
  pub turns : Turned shared_ways x.plan x.jobs x.turns a.run b.run
  -- these are their events, and no others
  pub events : List (Event TheSide)
  pub events_are : events ≡ events_of shared_ways x.jobs x.plan x.turns a.run b.run turns
  pub log_is : log ≡ log_of events
  -- each of which is the machine's on the cut of its moment
  pub begins : ShowsCut a.cut a.run
  pub follows : AllFollow services x.jobs events a b
  -- and each side of a ring was looked at as often as they found it empty or full
  pub counts : (n : ℕ) (p : TheSide) → slice_get a.run.rings n ≡ Some p
      → (q : TheSide) × (slice_get b.run.rings n ≡ Some q)
      × Counts (times services x.jobs (λ e. at_side n (finds_nothing n e)) events a b follows)
      (times services x.jobs (λ e. at_side n (finds_full n e)) events a b follows) p q
