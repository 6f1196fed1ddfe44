-- A reported run of cores that accept openings in whatever order, as a run of the one machine. Laws.
use Rattle.std.specs.Prelude.{ℕ, ◌==◌, false, Bool, List, slice_get}
use Rattle.std.specs.List.{list_any}
use Rattle.fl_base.specs.Given.{given}
use Rattle.fl_core.specs.declared.wiring.LinkSide.{LinkSide}
use Rattle.fl_cores.specs.Behind.{joined_in}
use Rattle.fl_cores.specs.OneCore.{begins}
use Rattle.fl_cores.specs.Promised.{Reports}
use Rattle.fl_cores_file.specs.Jobs.{Job}
use Rattle.fl_cores_file.specs.Report.{TheReport}
use Rattle.fl_world.specs.Booting.{TheConfig}
use Rattle.fl_world_refines.specs.View.{ring_at}
use Rattle.fl_cores_joined.specs.Entries.{CoreStep, none_open, left_open, moments_of, StepByStep, AreBeforeLooks}
use Rattle.fl_cores_joined.specs.Joined.{JoinedCore, AreWhole}
use Rattle.fl_cores_joined.specs.Runs.{asked_in}
use Rattle.fl_cores_joined.specs.RenamedRuns.{RunsUnderSome}
use Rattle.fl_cores_joined.specs.Steps.{Moment, Interleaves}
use Rattle.fl_cores_whole.specs.Whole.{begun}

-- this link's side is one of ring n, where these are the numbers of a core's sides
abbrev pub is_over : ℕ → List ℕ → LinkSide → Bool
is_over n sides link_side = given (slice_get sides link_side.side) false λ number. ring_at number == n

-- ring n is that of a link of one of the cores
abbrev pub is_of_link : List JoinedCore → ℕ → Bool
is_of_link xs n = list_any (λ (x : JoinedCore). list_any (is_over n x.sides) x.run.core.link_sides) xs

-- Whatever they do one after another, where each look finds what stands in its ring, is a run of the machine in which
-- bindings have other numbers, whatever the order in which openings are accepted: from where the set-up and the jobs'
-- rules have brought it, under a renaming that keeps the set-up's numbers and gives accepted openings the next ones in
-- that order, as long as each core is whole behind it.
abbrev pub ReportsJoinInAnyOrder : Type 0
ReportsJoinInAnyOrder = (c : TheConfig) (jobs : List Job) (limit : ℕ) (r : TheReport) (w : Reports c jobs limit r)
    (moments : List Moment) (ys : List JoinedCore)
    → (h : Interleaves (joined_in w).jobs (begun w) moments ys) → AreWhole ys
    → RunsUnderSome (is_of_link (begun w)) moments (asked_in (joined_in w).jobs (begun w) moments ys h)
    (begins c jobs) ys

-- an order of these steps with each look at the moment of what follows it, but for the looks that are open in the end,
-- which are still to come: it is such a run
pub record StepsRunUnderSome {c : TheConfig} {jobs : List Job} {limit : ℕ} {r : TheReport} (w : Reports c jobs limit r)
    (steps : List CoreStep) (ys : List JoinedCore) : Type 0 where
  pub cores : List JoinedCore
  pub order : Interleaves (joined_in w).jobs (begun w) (moments_of steps) cores
  pub before : AreBeforeLooks (joined_in w).jobs (left_open none_open steps) ys cores
  pub runs : RunsUnderSome (is_of_link (begun w)) (moments_of steps)
      (asked_in (joined_in w).jobs (begun w) (moments_of steps) cores order) (begins c jobs) cores

-- So it is entry by entry, where entries of others may come between a look and what follows it.
abbrev pub StepsJoinInAnyOrder : Type 0
StepsJoinInAnyOrder = (c : TheConfig) (jobs : List Job) (limit : ℕ) (r : TheReport) (w : Reports c jobs limit r)
    (steps : List CoreStep) (ys : List JoinedCore)
    → StepByStep (joined_in w).jobs none_open (begun w) steps ys → AreWhole ys → StepsRunUnderSome w steps ys
