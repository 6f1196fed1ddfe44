-- A core's whole run over its sides at one table, as events of the log of its turns. Law.
use Rattle.std.specs.Prelude.{ℕ, ◌≡◌, ◌<◌, ◌≤◌, List, length, map, None}
use Rattle.atomic_table.specs.Seated.{TableId}
use Rattle.fl_core.specs.declared.core_job.CoreJob.{CoreJob}
use Rattle.fl_core_run.specs.declared.plan.TurnPlan.{TurnPlan}
use Rattle.fl_core_run.specs.declared.run.Part.{Part}
use Rattle.fl_core_run.specs.LogEntries.{LogEntry}
use Rattle.fl_core_run.specs.Ran.{RunTask, RunMoment, CoreRan}
use Rattle.fl_core_run.specs.Run.{TheRun}
use Rattle.fl_core_run.specs.Turn.{Turned}
use Rattle.fl_core_run_laws.specs.Flows.{IsApart}
use Rattle.fl_core_turned.specs.TurnEvents.{log_of, events_of}
use Rattle.fl_history_joined.specs.InTurn.{AreInTurn, LinksAreLent}
use Rattle.fl_history_orders.specs.Orders.{CoreMoment, moment_of, HoldsSides, LoggedEvent, LogGoes}
use Rattle.fl_history_rings.specs.declared.board.SideEnd.{SideEnd}
use Rattle.fl_history_rings.specs.Cores.{TheCore}
use Rattle.fl_history_sides.specs.Core.{AreSidesOf}
use Rattle.fl_history_sides.specs.States.{TheHistorySide}
use Rattle.fl_history_sides.specs.Ways.{history_ways}

abbrev pub entries_in : List LoggedEvent → List LogEntry
entries_in log = map (λ (e : LoggedEvent). e.log_entry) log

-- this is the log of whole turns, no fewer than these, from one moment of a core to another
pub record IsTurnLog (plan : TurnPlan) (jobs : List CoreJob) (counted : ℕ) (s t : TheRun TheHistorySide)
    (log : List LogEntry) : Type 0 where
  pub turns : ℕ
  pub enough : counted ≤ turns
  pub turned : Turned history_ways plan jobs turns s t
  pub log_is : log ≡ log_of (events_of history_ways jobs plan turns s t turned)

-- a core's run from one moment to another is events of such a log, which is in turn; in the end it did what this core
-- did, and where it has sides it is this one
pub record IsLogged (table : TableId) (ends : List SideEnd) (task : RunTask) (counted : ℕ) (x : CoreMoment)
    (run : TheRun TheHistorySide) (d : TheCore) : Type 0 where
  pub log : List LoggedEvent
  pub core : TheCore
  pub goes : LogGoes table ends task.jobs x log (moment_of run core)
  pub did : core.steps ≡ d.steps
  pub same : 0 < length run.rings → core ≡ d
  pub turns : IsTurnLog task.plan task.jobs counted x.run run (entries_in log)
  pub in_turn : AreInTurn None (entries_in log)

-- Law: so is a whole run of a core that is lent the sides of its links, of which no two have one.
abbrev pub RunsAreOfTurns : Type 0
RunsAreOfTurns = (table : TableId) (ends : List SideEnd) (task : RunTask) (a b : RunMoment TheHistorySide) (part : Part)
    (c d : TheCore) → HoldsSides table ends (moment_of a.run c) → IsApart a.run.core → LinksAreLent a.run
    → CoreRan history_ways task a part b → AreSidesOf d b.run.rings
    → IsLogged table ends task part.turns (moment_of a.run c) b.run d
