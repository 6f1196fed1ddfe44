-- What a run over the sides of one table tells beside its report.
use Rattle.std.specs.Prelude.{ℕ, ◌≡◌, ◌≢◌, List, [], ◌∷◌, map, length}
use Rattle.std.specs.List.{AllByRecursion}
use Rattle.atomic_table.specs.Seated.{TableId}
use Rattle.fl_ring.specs.Duo.{TheDuo}
use Rattle.fl_history_rings.specs.declared.board.RingEnds.{RingEnds}
use Rattle.fl_history_rings.specs.Rings.{sides_of}
use Rattle.fl_history_rings.specs.Cores.{IsRingOf}
use Rattle.fl_history_sides.specs.States.{TheHistorySide}
use Rattle.fl_history_sides.specs.Core.{AreOfOneCore}
use Rattle.fl_history_sides.specs.Ways.{history_ways}
use Rattle.fl_core.specs.declared.core_job.CoreJob.{CoreJob}
use Rattle.fl_core_run.specs.Run.{TheRun}
use Rattle.fl_core_run.specs.Ran.{moment, task, CoreRan}
use Rattle.fl_cores_shares.specs.Shares.{Holdings, AreHandedOut}
use Rattle.fl_history_shares.specs.Dealt.{owners_in, numbers_below, first_hands}
use Rattle.fl_history_shares.specs.Settled.{AreSettled}
use Rattle.fl_cores_fork.specs.Runs.{TheCoreThread, TheFinishedCore}
use Rattle.fl_cores_fork.specs.CoreThreads.{shown_run}

-- ---- rings at one table

-- of the sizes of these, each between two of so many cores, where these are its sides' owners
pub record AreBetween (rings : List TheDuo) (owners : List ℕ) (cores : ℕ) (ends : List RingEnds) : Type 0 where
  pub sizes : map (λ (r : RingEnds). r.slots) ends ≡ map (λ (r : TheDuo). r.size) rings
  pub owners_are : owners_in ends ≡ owners
  pub of : AllByRecursion (IsRingOf cores) ends
  pub apart : AllByRecursion (λ (r : RingEnds). r.first ≢ r.second) ends

-- these are the hands of cores that have the sides of such rings, all new
pub record BeginAtTable (rings : List TheDuo) (owners : List ℕ) (cores : ℕ)
    (hands : Holdings TheHistorySide) : Type 0 where
  pub ends : List RingEnds
  pub between : AreBetween rings owners cores ends
  pub table : TableId
  -- by core, the numbers of its sides in the table
  pub numbers : Holdings ℕ
  pub handed_out : AreHandedOut owners (numbers_below (length owners)) numbers
  pub hands_are : hands ≡ first_hands table (sides_of ends) 0 numbers

-- ---- cores

-- a core ran so over its sides at the table, which are shown so; in the end they show all that it did
pub record IsNoted (jobs : List CoreJob) (limit : ℕ) (s : TheCoreThread) (o : TheFinishedCore)
    (begin end : TheRun TheHistorySide) : Type 0 where
  pub begin_is : shown_run begin ≡ s.run
  pub end_is : shown_run end ≡ o.run
  pub ran : CoreRan history_ways (task s.plan jobs limit) (moment begin s.run_seat) o.part (moment end o.run_seat)
  pub one : AreOfOneCore end.rings

abbrev pub AreNoted : List CoreJob → ℕ → List TheCoreThread → List TheFinishedCore
    → List (TheRun TheHistorySide) → List (TheRun TheHistorySide) → Type 0
AreNoted jobs limit [] [] [] [] = Unit {0}
AreNoted jobs limit (s ∷ core_threads) (o ∷ outcomes) (b ∷ begins) (e ∷ ends) =
    IsNoted jobs limit s o b e × AreNoted jobs limit core_threads outcomes begins ends
AreNoted jobs limit core_threads outcomes begins ends = ⊥

-- their sides at the table
abbrev pub hands_of : List (TheRun TheHistorySide) → Holdings TheHistorySide
hands_of runs = map (λ (r : TheRun TheHistorySide). r.rings) runs

-- all cores ran over sides of one table, whose rings are of these sizes, and one order has all that they did by them
pub record RanAtTable (jobs : List CoreJob) (limit : ℕ) (rings : List TheDuo) (owners : List ℕ)
    (core_threads : List TheCoreThread) (outcomes : List TheFinishedCore) : Type 0 where
  pub begins : List (TheRun TheHistorySide)
  pub ends : List (TheRun TheHistorySide)
  pub noted : AreNoted jobs limit core_threads outcomes begins ends
  pub at : BeginAtTable rings owners (length core_threads) (hands_of begins)
  pub settled : AreSettled (sides_of at.ends) (hands_of ends)
