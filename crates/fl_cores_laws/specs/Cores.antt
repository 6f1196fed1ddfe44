-- A run of cores, each by what happened there.
use Rattle.std.specs.Prelude.{ℕ, ◌≡◌, false, List, [], ◌∷◌, slice_get, Some}
use Rattle.fl_core_run.specs.declared.run.Part.{Part}
use Rattle.fl_ring.specs.SharedSeats.{front_seen}
use Rattle.fl_ring.specs.SharedSides.{TheSide, SharedPuts, SharedTakes}
use Rattle.fl_core.specs.BoardView.{TheEndAtChannel}
use Rattle.fl_endpoint.specs.Accounts.{Sound as IsEnd}
use Rattle.fl_core.specs.Sound.{IsCore}
use Rattle.fl_core.specs.declared.core_job.CoreJob.{CoreJob}
use Rattle.fl_core_run.specs.Run.{SideRelations, ways, TheRun}
use Rattle.fl_core_run.specs.LogEntries.{LogEntry, opened}
use Rattle.fl_core_run.specs.Steps.{lacks_to_open}
use Rattle.fl_core_run.specs.Ran.{RunTask, RunMoment, CoreRan}
use Rattle.fl_core_run_laws.specs.Logs.{Goes}
use Rattle.fl_core_run_laws.specs.Flows.{IsApart}

-- how sides of shared rings put and take, and what the last look saw
abbrev pub shared_ways : SideRelations TheSide
shared_ways = ways SharedPuts SharedTakes (λ (s : TheSide). front_seen s.peeked)

-- a core: as its run began, what happened in it, and as it ended
pub record OneCore : Type 0 where
  pub start : TheRun TheSide
  pub log : List LogEntry
  pub finish : TheRun TheSide

-- it went from the one to the other by that. At the start its sides of rings and its queues were apart, and in the end each end there is sound
pub record Went (jobs : List CoreJob) (c : OneCore) : Type 0 where
  pub goes : Goes shared_ways jobs c.start c.log c.finish
  pub core : IsCore c.start.core
  pub apart : IsApart c.start.core
  pub ends : (place : ℕ) (seat : TheEndAtChannel) → slice_get c.finish.core.board.seats place ≡ Some seat → IsEnd seat.end

-- so did each
abbrev pub AllWent : List CoreJob → List OneCore → Type 0
AllWent jobs cores = (n : ℕ) (c : OneCore) → slice_get cores n ≡ Some c → Went jobs c

-- ---- memory

-- an opening isn't one that was refused as out of memory
abbrev pub IsAmple : LogEntry → Type 0
IsAmple (opened name request answer) = lacks_to_open answer ≡ false
IsAmple log_entry = Unit {0}

-- none of a log is
abbrev pub AreAmple : List LogEntry → Type 0
AreAmple [] = Unit {0}
AreAmple (log_entry ∷ log) = IsAmple log_entry × AreAmple log

-- so it was at each core
abbrev pub AllAmple : List OneCore → Type 0
AllAmple cores = (n : ℕ) (c : OneCore) → slice_get cores n ≡ Some c → AreAmple c.log

-- ---- laws

-- a core's whole run is a log: its turns that were counted, and then those that weren't
abbrev pub CoresGo : Type 0
CoresGo = (t : RunTask) (a b : RunMoment TheSide) (part : Part) → CoreRan shared_ways t a part b
    → (log : List LogEntry) × Goes shared_ways t.jobs a.run log b.run

-- and no opening of it was refused as out of memory
abbrev pub CoresGoAmply : Type 0
CoresGoAmply = (t : RunTask) (a b : RunMoment TheSide) (part : Part) → CoreRan shared_ways t a part b
    → (log : List LogEntry) × Goes shared_ways t.jobs a.run log b.run × AreAmple log
