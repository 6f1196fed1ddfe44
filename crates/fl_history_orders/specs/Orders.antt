-- What cores at one table of rings did, event by event of their logs, and one order of all of it.
use Rattle.std.specs.Prelude.{ℕ, zero, suc, ◌≡◌, ◌<◌, ◌≤◌, ◌==◌, if◌then◌else◌, List, [], ◌∷◌, ◌++◌, length, map}
use Rattle.std.specs.Prelude.{slice_get, Some}
use mathlib.Core.Option.{some}
use lib.ListN.{get_elem?}
use Rattle.atomic_table.specs.Seated.{TableId}
use Rattle.fl_core.specs.declared.core_job.CoreJob.{CoreJob}
use Rattle.fl_core_run.specs.Run.{TheRun, over}
use Rattle.fl_core_run.specs.LogEntries.{LogEntry, Happens}
use Rattle.fl_core_run_laws.specs.Logs.{InPlace}
use Rattle.fl_cores_joined.specs.Joined.{JoinedCore}
use Rattle.fl_cores_joined.specs.Steps.{HappensAt}
use Rattle.fl_history_rings.specs.declared.board.Entry.{Entry}
use Rattle.fl_history_rings.specs.declared.board.SideEnd.{SideEnd}
use Rattle.fl_history_rings.specs.Rings.{Way, Goes, Runs, all_empty, IsByItsCore, steps_of}
use Rattle.fl_history_rings.specs.Cores.{TheCore, OwnsSlots}
use Rattle.fl_history_sides.specs.States.{TheHistorySide, numbers_of}
use Rattle.fl_history_sides.specs.Core.{AreSidesOf}
use Rattle.fl_history_sides.specs.Ways.{history_ways}
use Rattle.fl_history_entries.specs.Entries.{MayComeNext}

-- ---- one core

-- a running core at a moment, and what it did by its sides until then
pub record CoreMoment : Type 0 where
  pub run : TheRun TheHistorySide
  pub core : TheCore

abbrev pub moment_of : TheRun TheHistorySide → TheCore → CoreMoment
moment_of run core = record { run = run; core = core }

-- all its sides are that core's, which is of this table
pub record HoldsSides (table : TableId) (ends : List SideEnd) (x : CoreMoment) : Type 0 where
  pub sides : AreSidesOf x.core x.run.rings
  pub table_is : x.core.table ≡ table
  pub owns : (i : ℕ) (p : TheHistorySide) → slice_get x.run.rings i ≡ Some p
      → OwnsSlots ends p.number x.core.number p.side.size

-- an event of a core's log, and the steps that its core did by it
pub record LoggedEvent : Type 0 where
  pub log_entry : LogEntry
  pub steps : List Entry

-- it happens in its place, from the one moment to the other; all sides are the core's then, and its steps are these more
pub record IsNext (table : TableId) (ends : List SideEnd) (jobs : List CoreJob) (x : CoreMoment) (e : LoggedEvent)
    (y : CoreMoment) : Type 0 where
  pub happens : Happens history_ways e.log_entry x.run y.run
  pub in_place : InPlace jobs x.run e.log_entry
  pub may : MayComeNext e.log_entry x.run
  pub holds : HoldsSides table ends y
  pub number : y.core.number ≡ x.core.number
  pub numbers : numbers_of y.run.rings ≡ numbers_of x.run.rings
  pub did : y.core.steps ≡ x.core.steps ++ e.steps

-- one after another
abbrev pub LogGoes : TableId → List SideEnd → List CoreJob → CoreMoment → List LoggedEvent → CoreMoment → Type 0
LogGoes table ends jobs x [] y = y ≡ x
LogGoes table ends jobs x (e ∷ events) y =
    (m : CoreMoment) × IsNext table ends jobs x e m × LogGoes table ends jobs m events y

-- a log led from one moment to this run: it is events of a core whose sides these are in the end, each in its place
pub record LogsOn (table : TableId) (ends : List SideEnd) (jobs : List CoreJob) (x : CoreMoment)
    (log : List LogEntry) (run : TheRun TheHistorySide) : Type 0 where
  pub core : TheCore
  pub events : List LoggedEvent
  pub goes : LogGoes table ends jobs x events (moment_of run core)
  pub entries : map (λ (e : LoggedEvent). e.log_entry) events ≡ log

-- ---- all cores

-- what there is of each of so many, by their numbers from this one on
abbrev pub each_from : {A : Type 0} → ℕ → ℕ → (ℕ → A) → List A
each_from first zero f = []
each_from first (suc count) f = f first ∷ each_from (suc first) count f

-- a core as the world has it: its sides have their numbers in the table, and its queues these
abbrev pub joined_core : List ℕ → CoreMoment → JoinedCore
joined_core queues x = record {
  run = over (map (λ (p : TheHistorySide). p.side) x.run.rings) x.run;
  sides = numbers_of x.run.rings;
  queues = queues;
}

abbrev pub joined_cores : ℕ → (ℕ → List ℕ) → (ℕ → CoreMoment) → List JoinedCore
joined_cores count queues at = each_from 0 count (λ n. joined_core (queues n) (at n))

-- each side of these is in the hands of its core, which is one of so many
abbrev pub AreHeld : List SideEnd → ℕ → (ℕ → CoreMoment) → Type 0
AreHeld ends count at = (s : ℕ) (end : SideEnd) → get_elem? ends s ≡ some end
    → (end.core < count) × ((i : ℕ) × (slice_get (numbers_of (at end.core).run.rings) i ≡ Some s))

-- So many cores of one table ran their logs, each from when it had done nothing, and one order has all that they did.
-- Each stands between two events of its log in the end: one that stopped for want of memory within a turn does not.
pub record RanInOneOrder (table : TableId) (ends : List SideEnd) (jobs : List CoreJob) (count : ℕ)
    (begin end : ℕ → CoreMoment) (logs : ℕ → List LoggedEvent) : Type 0 where
  pub held : AreHeld ends count begin
  pub holds : (n : ℕ) → n < count → HoldsSides table ends (begin n)
  pub numbered : (n : ℕ) → n < count → (begin n).core.number ≡ n
  pub nothing_yet : (n : ℕ) → n < count → (begin n).core.steps ≡ []
  pub goes : (n : ℕ) → n < count → LogGoes table ends jobs (begin n) (logs n) (end n)
  pub no_more : (n : ℕ) → count ≤ n → logs n ≡ []
  pub log : List Entry
  pub ways : List Way
  pub runs : Runs (Goes ends) (all_empty (length ends)) log ways
  pub by_its_core : (i : ℕ) (e : Entry) → get_elem? log i ≡ some e → IsByItsCore ends e
  pub did : (n : ℕ) → n < count → steps_of n log ≡ (end n).core.steps

-- ---- one order of their logs

pub record CoreEntry : Type 0 where
  pub core : ℕ
  pub log_entry : LogEntry

-- each happens in its turn, and its loads find what stands in the rings then
abbrev pub HappenInTurn : List CoreJob → List JoinedCore → List CoreEntry → List JoinedCore → Type 0
HappenInTurn jobs xs [] ys = ys ≡ xs
HappenInTurn jobs xs (x ∷ turns) ys =
    (ms : List JoinedCore) × HappensAt jobs x.core x.log_entry xs ms × HappenInTurn jobs ms turns ys

-- of these those of one core, in order
abbrev pub entries_of : ℕ → List CoreEntry → List LogEntry
entries_of n [] = []
entries_of n (x ∷ turns) = if x.core == n then x.log_entry ∷ entries_of n turns else entries_of n turns

-- one order of all events of these logs, from these joined cores to those
pub record LogsInOneOrder (jobs : List CoreJob) (xs : List JoinedCore) (logs : ℕ → List LoggedEvent)
    (ys : List JoinedCore) : Type 0 where
  pub turns : List CoreEntry
  pub happen : HappenInTurn jobs xs turns ys
  pub each : (n : ℕ) → entries_of n turns ≡ map (λ (e : LoggedEvent). e.log_entry) (logs n)
