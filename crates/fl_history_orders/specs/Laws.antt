-- Cores at one table of rings ran in an order in which each look finds what stands. Law.
use Rattle.std.specs.Prelude.{ℕ, List}
use Rattle.atomic_table.specs.Seated.{TableId}
use Rattle.fl_core.specs.declared.core_job.CoreJob.{CoreJob}
use Rattle.fl_history_rings.specs.declared.board.SideEnd.{SideEnd}
use Rattle.fl_history_rings.specs.Rule.{ArePaired}
use Rattle.fl_core_run.specs.LogEntries.{LogEntry}
use Rattle.fl_core_run.specs.declared.run.Part.{Part}
use Rattle.fl_core_run.specs.Ran.{RunTask, RunMoment, CoreRan}
use Rattle.fl_history_rings.specs.Cores.{TheCore}
use Rattle.fl_history_sides.specs.States.{TheHistorySide}
use Rattle.fl_history_sides.specs.Core.{AreOfOneCore}
use Rattle.fl_history_sides.specs.Ways.{history_ways}
use Rattle.fl_history_facing.specs.Moments.{AreOfTwoCores}
use Rattle.fl_history_orders.specs.Orders.{CoreMoment, moment_of, HoldsSides, LoggedEvent, LogsOn, RanInOneOrder}
use Rattle.fl_history_orders.specs.Orders.{joined_cores, LogsInOneOrder}

-- Law: what a core's whole run did over its sides at one table is events of its log, each in its place: between any two
-- of them all sides are its own, and each event's steps stand behind those before. So a core that ran meets `goes` of
-- `RanInOneOrder`. Where it has sides, the core in the end is the only one whose they are.
abbrev pub RunsAreLogged : Type 0
RunsAreLogged = (table : TableId) (ends : List SideEnd) (t : RunTask) (a b : RunMoment TheHistorySide) (part : Part) (c : TheCore)
    → HoldsSides table ends (moment_of a.run c) → CoreRan history_ways t a part b → AreOfOneCore b.run.rings
    → (log : List LogEntry) × LogsOn table ends t.jobs (moment_of a.run c) log b.run

-- Law: where all that cores did by the sides of one table has one order, their logs have one, in which each event
-- happens in its turn, over rings as they stand then. No premise says that events have an order.
-- A look and what follows it are two events here; others may come between.
abbrev pub LogsHaveOneOrder : Type 0
LogsHaveOneOrder = (table : TableId) (ends : List SideEnd) (jobs : List CoreJob) (count : ℕ)
    (begin end : ℕ → CoreMoment) (logs : ℕ → List LoggedEvent) (queues : ℕ → List ℕ)
    → ArePaired ends → AreOfTwoCores ends → RanInOneOrder table ends jobs count begin end logs
    → LogsInOneOrder jobs (joined_cores count queues begin) logs (joined_cores count queues end)
