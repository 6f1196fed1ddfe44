-- That turns of a core which is ready are turns on its cut. Laws.
use Rattle.std.specs.Prelude.{ℕ, ◌≡◌, ◌⊎◌, true, List, [], ◌∷◌, map}
use Rattle.fl_base.specs.declared.fragment.Frag.{Frag}
use Rattle.fl_base.specs.declared.identity.LinkId.{LinkId}
use Rattle.fl_base.specs.Numbered.{core_id}
use Rattle.std.specs.Prelude.{Ok}
use Rattle.fl_monitor.specs.declared.message.MonitorMessage.{MonitorMessage}
use Rattle.fl_monitor.specs.Fates.{comes_along}
use Rattle.fl_monitor.specs.Saying.{Says}
use Rattle.fl_ring.specs.SharedSides.{TheSide}
use Rattle.fl_core.specs.declared.answer.MonitorAnswer.TheVariants.{Done}
use Rattle.fl_core.specs.declared.core_job.CoreJob.{CoreJob}
use Rattle.fl_core_run.specs.declared.plan.TurnPlan.{TurnPlan}
use Rattle.fl_core_run.specs.LogEntries.{LogEntry, heard}
use Rattle.fl_core_run.specs.Run.{TheRun}
use Rattle.fl_core_run.specs.Turn.{Turned}
use Rattle.fl_core_run_laws.specs.Logs.{Goes}
use Rattle.fl_model.specs.Binding.{all_differ}
use Rattle.fl_model.specs.Monitors.{Service}
use Rattle.fl_model.specs.Rings.{OpeningLabel, open_circuit}
use Rattle.fl_core_refines.specs.Cut.{CoreCut, ShowsCut}
use Rattle.fl_core_refines.specs.CutHearing.{said_of}
use Rattle.fl_core_refines.specs.CutReady.{IsReady}
use Rattle.fl_core_turned.specs.TurnEvents.{log_of, events_of}
use Rattle.fl_core_turned.specs.Turned.{shared_ways, moment, many, TurnedBy}

-- an event is one of a log
abbrev pub IsIn : LogEntry → List LogEntry → Type 0
IsIn log_entry [] = ⊥
IsIn log_entry (first ∷ log) = (first ≡ log_entry) ⊎ IsIn log_entry log

-- each opening that the core of a cut hears in a log, and that came along its route, has a route that names
-- no core twice, as each of the machine's has
abbrev pub RoutesDiffer : CoreCut → List LogEntry → Type 0
RoutesDiffer a log = (n : ℕ) (l : LinkId) (frag : Frag) (m : MonitorMessage) (o : OpeningLabel)
    → IsIn (heard n l frag (Ok Done)) log
    → Says frag m → said_of m ≡ open_circuit o
    → comes_along a.core.circuits l.0 (map core_id o.path) ≡ true → all_differ o.path ≡ true

-- the log of turns: what happened in them, one after another, each in its place
abbrev pub turns_log : (plan : TurnPlan) (jobs : List CoreJob) (k : ℕ) (s t : TheRun TheSide)
    → Turned shared_ways plan jobs k s t → List LogEntry
turns_log plan jobs k s t turns = log_of (events_of shared_ways jobs plan k s t turns)

abbrev pub TurnsHappen : Type 0
TurnsHappen = (plan : TurnPlan) (jobs : List CoreJob) (k : ℕ) (s t : TheRun TheSide)
    (turns : Turned shared_ways plan jobs k s t)
    → Goes shared_ways jobs s (turns_log plan jobs k s t turns) t

-- a core that shows a cut, and is ready, and hears of no route that names a core twice: its turns are turns
-- on its cut
abbrev pub ReadyTurns : Type 0
ReadyTurns = (services : List Service) (plan : TurnPlan) (jobs : List CoreJob) (k : ℕ) (a : CoreCut)
    (s t : TheRun TheSide) → ShowsCut a s → IsReady services a s → (turns : Turned shared_ways plan jobs k s t)
    → RoutesDiffer a (turns_log plan jobs k s t turns)
    → (b : CoreCut)
    × TurnedBy services (many plan jobs k) (turns_log plan jobs k s t turns) (moment s a) (moment t b)
