-- A run of cores, each with the point at which its counted turns came to an end.
use Rattle.std.specs.Prelude.{ℕ, ◌≡◌, List, slice_get, Some}
use Rattle.fl_ring.specs.SharedSeats.{front_seen}
use Rattle.fl_ring.specs.SharedSides.{TheSide, SharedPuts, SharedTakes}
use Rattle.fl_core.specs.declared.core_job.CoreJob.{CoreJob}
use Rattle.fl_core_run.specs.declared.plan.TurnPlan.{TurnPlan}
use Rattle.fl_core_run.specs.declared.run.Part.{Part}
use Rattle.fl_core_run.specs.Run.{SideRelations, ways, TheRun}
use Rattle.fl_core_run.specs.Ran.{task, RunMoment, Counted, GoesOn}

-- how sides of shared rings put and take, and what the last look saw
abbrev pub shared_ways : SideRelations TheSide
shared_ways = ways SharedPuts SharedTakes (λ (s : TheSide). front_seen s.peeked)

-- a core: what its turns went over, how they ended, and how it was as it began, at the point where its counted turns came to an end, and in the end
pub record OneCore : Type 0 where
  pub plan : TurnPlan
  pub part : Part
  pub begin : RunMoment TheSide
  pub point : RunMoment TheSide
  pub finish : TheRun TheSide

-- it took turns that were counted, up to that point, and went on from there where it had finished (`CoreRan` of fl_core_run has all that)
pub record Went (jobs : List CoreJob) (limit : ℕ) (c : OneCore) : Type 0 where
  pub counted : Counted shared_ways (task c.plan jobs limit) c.begin c.part c.point
  pub goes_on : GoesOn shared_ways (task c.plan jobs limit) c.part.end c.point.run c.finish

-- so did each
abbrev pub AllWent : List CoreJob → ℕ → List OneCore → Type 0
AllWent jobs limit cores = (n : ℕ) (c : OneCore) → slice_get cores n ≡ Some c → Went jobs limit c
