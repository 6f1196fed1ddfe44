-- One order of cores' logs, as a run of these cores joined. Laws.
use Rattle.std.specs.Prelude.{ℕ, ◌≡◌, ◌<◌, ◌==◌, if◌then◌else◌, List, [], ◌∷◌, ◌++◌, length, None}
use Rattle.atomic_table.specs.Seated.{TableId}
use Rattle.fl_core.specs.declared.core_job.CoreJob.{CoreJob}
use Rattle.fl_core_run.specs.LogEntries.{LogEntry}
use Rattle.fl_cores_joined.specs.Entries.{CoreStep, acts, looks, follows, none_open, left_open, moments_of, StepByStep}
use Rattle.fl_cores_joined.specs.Joined.{JoinedCore}
use Rattle.fl_cores_joined.specs.Steps.{Moment, does, forwards, Interleaves}
use Rattle.fl_history_joined.specs.InTurn.{AreInTurn}
use Rattle.fl_history_orders.specs.Orders.{CoreMoment, CoreEntry, HappenInTurn, entries_of, RanInOneOrder}

-- whose turn each step is, and what happens in it
abbrev pub turn : ℕ → LogEntry → CoreEntry
turn core log_entry = record { core = core; log_entry = log_entry }

abbrev pub turns_of : List CoreStep → List CoreEntry
turns_of [] = []
turns_of (acts n log_entry ∷ steps) = turn n log_entry ∷ turns_of steps
turns_of (looks n look ∷ steps) = turn n look ∷ turns_of steps
turns_of (follows n look log_entry ∷ steps) = turn n log_entry ∷ turns_of steps

-- of these moments the entries of core n, in order
abbrev pub entries_at : ℕ → List Moment → List LogEntry
entries_at n [] = []
entries_at n (does m log_entry ∷ moments) = (if m == n then log_entry ∷ [] else []) ++ entries_at n moments
entries_at n (forwards m look log_entry ∷ moments) =
    (if m == n then look ∷ log_entry ∷ [] else []) ++ entries_at n moments

-- An order of turns is a run from these cores to those:
pub record IsRun (jobs : List CoreJob) (xs : List JoinedCore) (turns : List CoreEntry)
    (ys : List JoinedCore) : Type 0 where
  -- step by step, where in the end no look waits for what follows it;
  pub steps : List CoreStep
  pub turns_are : turns_of steps ≡ turns
  pub order : StepByStep jobs none_open xs steps ys
  pub followed : (n : ℕ) → left_open none_open steps n ≡ None
  -- and by moments, each look at that of what follows it. Of each core these have the same entries.
  pub interleaves : Interleaves jobs xs (moments_of steps) ys
  pub entries : (n : ℕ) → entries_at n (moments_of steps) ≡ entries_of n turns

-- Law: where in one order each event happens in its turn, and each core's are in turn, it is a run.
abbrev pub OrdersAreRuns : Type 0
OrdersAreRuns = (jobs : List CoreJob) (xs ys : List JoinedCore) (turns : List CoreEntry)
    → HappenInTurn jobs xs turns ys → ((n : ℕ) → n < length xs → AreInTurn None (entries_of n turns))
    → IsRun jobs xs turns ys

-- a core of this number at the table, without sides, that did nothing
pub record IsIdle (table : TableId) (n : ℕ) (x : CoreMoment) : Type 0 where
  pub rings : x.run.rings ≡ []
  pub table_is : x.core.table ≡ table
  pub number : x.core.number ≡ n
  pub steps : x.core.steps ≡ []

-- Law: there are cores that ran in one order.
abbrev pub IdleCoresRan : Type 0
IdleCoresRan = (table : TableId) (jobs : List CoreJob) (count : ℕ) (at : ℕ → CoreMoment)
    → ((n : ℕ) → n < count → IsIdle table n (at n))
    → RanInOneOrder table [] jobs count at at (λ n. [])
