-- A core's log, told apart: events that are whole in themselves, and looks, each with what follows it. Law.
use Rattle.std.specs.Prelude.{ℕ, ◌≡◌, ◌⊎◌, ◌<◌, List, [], ◌∷◌, length, Option, Some, None}
use Rattle.fl_core.specs.declared.core_job.CoreJob.{CoreJob}
use Rattle.fl_core.specs.View.{side_of_link}
use Rattle.fl_core_run.specs.declared.plan.TurnPlan.{TurnPlan}
use Rattle.fl_core_run.specs.LogEntries.{LogEntry}
use Rattle.fl_core_run.specs.Run.{SideRelations, TheRun}
use Rattle.fl_core_run.specs.Turn.{Turned}
use Rattle.fl_core_run_laws.specs.Flows.{IsApart}
use Rattle.fl_core_turned.specs.TurnEvents.{log_of, events_of}
use Rattle.fl_cores_joined.specs.Steps.{IsWholeEvent, Follows}

-- where this look waits, if one does, what follows it comes first; else a whole event does, or a look
abbrev pub AreInTurn : Option LogEntry → List LogEntry → Type 0
AreInTurn None [] = Unit {0}
AreInTurn None (log_entry ∷ log) = (IsWholeEvent log_entry × AreInTurn None log) ⊎ AreInTurn (Some log_entry) log
AreInTurn (Some look) [] = ⊥
AreInTurn (Some look) (log_entry ∷ log) = Follows look log_entry × AreInTurn None log

-- the core is lent the side of each of its links
abbrev pub LinksAreLent : {S : Type 0} → TheRun S → Type 0
LinksAreLent s = (l n : ℕ) → side_of_link s.core.link_sides l ≡ Some n → n < length s.rings

-- Law: so is the log of whole turns of a core that is lent the sides of its links, of which no two have one.
abbrev pub TurnsAreInTurn : {S : Type 0} → SideRelations S → Type 0
TurnsAreInTurn {S} w = (plan : TurnPlan) (jobs : List CoreJob) (k : ℕ) (s t : TheRun S)
    (turns : Turned w plan jobs k s t) → IsApart s.core → LinksAreLent s
    → AreInTurn None (log_of (events_of w jobs plan k s t turns))
