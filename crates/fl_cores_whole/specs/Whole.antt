-- A reported run of cores, as a run of the one machine. Laws.
use Rattle.std.specs.Prelude.{ℕ, ◌≡◌, ◌==◌, if◌then◌else◌, List, [], ◌∷◌, ◌++◌, slice_get, Some}
use Rattle.fl_ring.specs.SharedSides.{TheSide}
use Rattle.fl_core.specs.declared.core_job.CoreJob.{CoreJob}
use Rattle.fl_core_turned.specs.TurnEvents.{Event as TurnEvent, event}
use Rattle.fl_cores_fork.specs.Runs.{TheFinishedCore}
use Rattle.fl_cores.specs.Behind.{joined_in}
use Rattle.fl_cores.specs.OneCore.{begins}
use Rattle.fl_cores.specs.Promised.{Reports}
use Rattle.fl_cores_file.specs.Jobs.{Job}
use Rattle.fl_cores_file.specs.Report.{TheReport}
use Rattle.fl_world.specs.Booting.{TheConfig}
use Rattle.fl_cores_joined.specs.Joined.{JoinedCore, AreWhole, alone}
use Rattle.fl_cores_joined.specs.Entries.{CoreStep, none_open, StepByStep, left_open, AreBeforeLooks, moments_of}
use Rattle.fl_cores_joined.specs.Steps.{Moment, does, forwards, Interleaves}
use Rattle.fl_cores_joined.specs.Runs.{asked_in, MachineRuns, AllAreNumbered}
use Rattle.fl_cores_whole.specs.Begin.{joined_from, owners_in}

-- the cores of a reported run, as their threads are given them
abbrev pub begun : {c : TheConfig} {jobs : List Job} {limit : ℕ} {r : TheReport} → Reports c jobs limit r
    → List JoinedCore
begun w = joined_from (owners_in w.ran.ran.ran.shares) 0 w.ran.ran.ran.core_threads

-- Whatever they do one after another, where each look finds what stands in its ring and circuits are asked
-- for in the order of their numbers, is a run of the machine, from where the set-up and the jobs' rules have
-- brought it, as long as each core is whole behind it.
abbrev pub ReportsJoin : Type 0
ReportsJoin = (c : TheConfig) (jobs : List Job) (limit : ℕ) (r : TheReport) (w : Reports c jobs limit r)
    (moments : List Moment) (ys : List JoinedCore)
    → (h : Interleaves (joined_in w).jobs (begun w) moments ys) → AreWhole ys
    → AllAreNumbered (joined_in w).jobs (begins c jobs) (begun w) moments ys h
    → MachineRuns (asked_in (joined_in w).jobs (begun w) moments ys h) (begins c jobs) ys

-- an order of these steps with each look at the moment of what follows it, but for the looks that are open in
-- the end, which are still to come: where circuits are asked for in the order of their numbers it is a run
-- of the machine
pub record StepsRun {c : TheConfig} {jobs : List Job} {limit : ℕ} {r : TheReport} (w : Reports c jobs limit r)
    (steps : List CoreStep) (ys : List JoinedCore) : Type 0 where
  pub cores : List JoinedCore
  pub order : Interleaves (joined_in w).jobs (begun w) (moments_of steps) cores
  pub before : AreBeforeLooks (joined_in w).jobs (left_open none_open steps) ys cores
  pub runs : AllAreNumbered (joined_in w).jobs (begins c jobs) (begun w) (moments_of steps) cores order
      → MachineRuns (asked_in (joined_in w).jobs (begun w) (moments_of steps) cores order) (begins c jobs) cores

-- So it is entry by entry, up to any moment, where entries of others may come between a look and what follows it.
abbrev pub StepsOfReportsJoin : Type 0
StepsOfReportsJoin = (c : TheConfig) (jobs : List Job) (limit : ℕ) (r : TheReport) (w : Reports c jobs limit r)
    (steps : List CoreStep) (ys : List JoinedCore)
    → StepByStep (joined_in w).jobs none_open (begun w) steps ys → AreWhole ys → StepsRun w steps ys

-- ---- what the threads did

-- the events of core n in an interleaving, each with the core behind it
abbrev pub events_at : ℕ → (jobs : List CoreJob) (xs : List JoinedCore) (moments : List Moment)
    (ys : List JoinedCore) → Interleaves jobs xs moments ys → List (TurnEvent TheSide)
events_at n jobs xs [] ys h = []
events_at n jobs xs (does m log_entry ∷ moments) ys h =
    (if m == n then event log_entry (alone h.1.1.after) ∷ [] else []) ++ events_at n jobs h.0 moments ys h.2
events_at n jobs xs (forwards m look next ∷ moments) ys h =
    (if m == n then event look (alone h.1.1.1.after) ∷ event next (alone h.1.1.2.after) ∷ [] else [])
    ++ events_at n jobs h.0 moments ys h.2

module _ {c : TheConfig} {jobs : List Job} {limit : ℕ} {r : TheReport} (w : Reports c jobs limit r) where
  -- these are the cores as they were left, of which the report tells
  abbrev pub AreLeft : List JoinedCore → Type 0
  AreLeft ys = (n : ℕ) (o : TheFinishedCore) → slice_get w.ran.ran.ran.outcomes n ≡ Some o
      → (y : JoinedCore) × (slice_get ys n ≡ Some y) × (y.run ≡ o.run)
