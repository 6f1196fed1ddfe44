-- A core that ran over the sides of one table ran over sides of rings by themselves.
use Rattle.std.proofs.Common.{ℕ, List, ◌≡◌, ◌∙◌, ap, subst, sym}
use Rattle.fl_core.specs.declared.core_job.CoreJob.{CoreJob}
use Rattle.fl_core_run.specs.declared.plan.TurnPlan.{TurnPlan}
use Rattle.fl_core_run.specs.declared.run.Part.{Part}
use Rattle.fl_core_run.specs.declared.run_seat.RunSeat.{RunSeat}
use Rattle.fl_core_run.specs.declared.running.RunningCore.{RunningCore}
use Rattle.fl_core_run.specs.Run.{TheRun, over, with_rings}
use Rattle.fl_core_run.specs.Ran.{moment, task, run_seat_of}
use Rattle.fl_history_sides.specs.declared.sides.HistorySides.{HistorySides}
use Rattle.fl_history_sides.specs.States.{TheHistorySide}
use Rattle.fl_history_sides.specs.Lent.{states_in}
use Rattle.fl_history_sides.specs.Core.{AreOfOneCore}
use Rattle.fl_history_runs.proofs.Turns.{runs_are_shown}
use Rattle.fl_history_shares.specs.declared.noting_sides.NotingSides.{NotingSides}
use Rattle.fl_cores_fork.specs.declared.core_thread.CoreThread.{CoreThread}
use Rattle.fl_cores_fork.specs.declared.core_thread.FinishedCore.{FinishedCore}
use Rattle.fl_cores_fork.specs.Runs.{IsLeftSound}
use Rattle.fl_cores_fork.specs.CoreThreads.{noted_run, noting_run, outcome_of, NotedTo, RanNoted, CoreThreadRan, without_records}

-- ---- over other sides

pub over_noting : (r : RunningCore HistorySides) (sides : HistorySides) (noting : NotingSides) → sides ≡ r.rings → states_in noting.lent ≡ states_in sides.lent
    → noting_run (with_rings noting r) ≡ noted_run r
over_noting r sides noting had same =
    ap (λ (rings : List TheHistorySide). over rings (noted_run r)) (same ∙ ap (λ (s : HistorySides). states_in s.lent) had)

pub over_own : (r : RunningCore NotingSides) (sides : HistorySides) (noting : NotingSides) → noting ≡ r.rings → states_in sides.lent ≡ states_in noting.lent
    → noted_run (with_rings sides r) ≡ noting_run r
over_own r sides noting had same =
    ap (λ (rings : List TheHistorySide). over rings (noting_run r)) (same ∙ ap (λ (s : NotingSides). states_in s.lent) had)

-- ---- what came of it

-- by the run over the sides of one table
pub ran_noted : (jobs : List CoreJob) (limit : ℕ) (s : CoreThread) (d : FinishedCore) → NotedTo jobs limit s d → IsLeftSound (outcome_of d)
    → AreOfOneCore (noted_run d.core_thread.running.value).rings → CoreThreadRan jobs limit s d
ran_noted jobs limit s d noted left one = record {
  ran = runs_are_shown (task s.plan jobs limit) (moment (noted_run s.running.value) (run_seat_of s.run_seat))
      (moment (noted_run d.core_thread.running.value) (run_seat_of d.core_thread.run_seat)) d.part noted;
  left = left;
  noted = noted;
  one = one;
}

pub ran_to : (jobs : List CoreJob) (limit : ℕ) (s : CoreThread) (d : FinishedCore)
    → RanNoted jobs limit s.plan (noted_run s.running.value) s.run_seat d.part (noted_run d.core_thread.running.value) d.core_thread.run_seat → CoreThreadRan jobs limit s d
ran_to jobs limit s d ran = ran_noted jobs limit s d ran.noted ran.left ran.one

-- over sides that note: the run began with what the core had, and the core has what it came to
pub ran_own : (jobs : List CoreJob) (limit : ℕ) (plan : TurnPlan) (run over end own : TheRun TheHistorySide) (seat seat2 : RunSeat) (part : Part)
    → over ≡ run → own ≡ end → RanNoted jobs limit plan over seat part end seat2 → RanNoted jobs limit plan run seat part own seat2
ran_own jobs limit plan run over end own seat seat2 part begins ends ran =
    subst (λ (r : TheRun TheHistorySide). RanNoted jobs limit plan run seat part r seat2) (sym ends)
    (subst (λ (r : TheRun TheHistorySide). RanNoted jobs limit plan r seat part end seat2) begins ran)

-- what its sides noted is nothing to it
pub ran_without : (jobs : List CoreJob) (limit : ℕ) (s : CoreThread) (d d2 : FinishedCore) → without_records d2 ≡ without_records d → CoreThreadRan jobs limit s d
    → CoreThreadRan jobs limit s d2
ran_without jobs limit s d d2 same ran =
    let bare : CoreThreadRan jobs limit s (without_records d) = record { ran = ran.ran; left = ran.left; noted = ran.noted; one = ran.one } in
    let other : CoreThreadRan jobs limit s (without_records d2) = subst (CoreThreadRan jobs limit s) (sym same) bare in
    record { ran = other.ran; left = other.left; noted = other.noted; one = other.one }
