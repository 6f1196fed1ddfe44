-- A core's whole run is turns: those that are counted, and then some that aren't.
use Rattle.std.proofs.Common.{sym, subst, ℕ, zero, suc, ◌≤◌, List, arith}
use Rattle.fl_ring.specs.SharedSides.{TheSide}
use Rattle.fl_core.specs.declared.core_job.CoreJob.{CoreJob}
use Rattle.fl_core_run.specs.declared.plan.TurnPlan.{TurnPlan}
use Rattle.fl_core_run.specs.declared.run.RunEnd.{RunEnd}
use Rattle.fl_core_run.specs.declared.run.RunEnd.TheVariants.{Finished, Unfinished, Told}
use Rattle.fl_core_run.specs.Ran.{GoesOn}
use Rattle.fl_core_run.specs.Run.{TheRun}
use Rattle.fl_core_run.specs.Turn.{Turned}
use Rattle.fl_core_run_laws.specs.Logs.{CountedAreTurns}
use Rattle.fl_cores_fork.specs.Runs.{TheFinishedCore, TheCoreThread, RanTo, shared_ways}

-- so many turns, no fewer than these
pub record AtLeast (plan : TurnPlan) (jobs : List CoreJob) (least : ℕ) (s t : TheRun TheSide) : Type 0 where
  pub turns : ℕ
  pub enough : least ≤ turns
  pub turned : Turned shared_ways plan jobs turns s t

more_turns : (plan : TurnPlan) (jobs : List CoreJob) (k more : ℕ) (s m t : TheRun TheSide) → Turned shared_ways plan jobs k s m → Turned shared_ways plan jobs more m t
    → AtLeast plan jobs k s t
more_turns plan jobs k zero s m t first same =
    record { turns = k; enough = omega arith; turned = subst (Turned shared_ways plan jobs k s) (sym same) first }
more_turns plan jobs k (suc more) s m t first (between, rest, one) =
    let before = more_turns plan jobs k more s m between first rest in
    let enough = before.enough in
    record { turns = suc before.turns; enough = omega (arith, enough); turned = (between, before.turned, one) }

whole : (jobs : List CoreJob) (limit : ℕ) (s : TheCoreThread) (o : TheFinishedCore) (ran : RanTo jobs limit s o) (end : RunEnd)
    → Turned shared_ways s.plan jobs o.part.turns s.run ran.middle.run
    → GoesOn shared_ways (Rattle.fl_core_run.specs.Ran.task s.plan jobs limit) end ran.middle.run o.run → AtLeast s.plan jobs o.part.turns s.run o.run
whole jobs limit s o ran Finished first (more, rest) = more_turns s.plan jobs o.part.turns more s.run ran.middle.run o.run first rest
whole jobs limit s o ran Unfinished first same = more_turns s.plan jobs o.part.turns 0 s.run ran.middle.run o.run first same
whole jobs limit s o ran Told first same = more_turns s.plan jobs o.part.turns 0 s.run ran.middle.run o.run first same

pub ran_turns : CountedAreTurns shared_ways → (jobs : List CoreJob) (limit : ℕ) (s : TheCoreThread) (o : TheFinishedCore) → RanTo jobs limit s o
    → AtLeast s.plan jobs o.part.turns s.run o.run
ran_turns law jobs limit s o ran =
    whole jobs limit s o ran o.part.end (law (Rattle.fl_core_run.specs.Ran.task s.plan jobs limit) (Rattle.fl_core_run.specs.Ran.moment s.run s.run_seat) ran.middle o.part ran.counted)
    ran.goes_on
