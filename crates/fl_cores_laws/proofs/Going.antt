-- Turns in a row, put together.
use Rattle.std.proofs.Common.{◌≡◌, refl, sym, subst, ℕ, zero, suc, List, [], ◌∷◌, ◌++◌}
use Rattle.fl_ring.specs.SharedSides.{TheSide}
use Rattle.fl_core.specs.declared.core_job.CoreJob.{CoreJob}
use Rattle.fl_core_run.specs.declared.plan.TurnPlan.{TurnPlan}
use Rattle.fl_core_run.specs.declared.run.RunEnd.{RunEnd}
use Rattle.fl_core_run.specs.declared.run.RunEnd.TheVariants.{Finished, Unfinished, Told}
use Rattle.fl_core_run.specs.LogEntries.{LogEntry}
use Rattle.fl_core_run.specs.Run.{TheRun}
use Rattle.fl_core_run.specs.Turn.{OneTurn, Turned}
use Rattle.fl_core_run.specs.Ran.{task, GoesOn, SomeTurns}
use Rattle.fl_core_run_laws.specs.Logs.{Goes}
use Rattle.fl_cores_laws.specs.EndedCores.{shared_ways}

module _ (plan : TurnPlan) (jobs : List CoreJob) where
  abbrev pub One : TheRun TheSide → TheRun TheSide → Type 0
  One s t = OneTurn shared_ways plan jobs s t

  abbrev pub Some_ : TheRun TheSide → TheRun TheSide → Type 0
  Some_ s t = SomeTurns shared_ways plan jobs s t

  pub none : (s t : TheRun TheSide) → t ≡ s → Some_ s t
  none s t same = (zero, same)

  pub behind : (s m t : TheRun TheSide) → Some_ s m → One m t → Some_ s t
  behind s m t some one = (suc some.0, (m, some.1, one))

  first : (k : ℕ) (s m t : TheRun TheSide) → One s m → Turned shared_ways plan jobs k m t → Turned shared_ways plan jobs (suc k) s t
  first zero s m t one same = (s, refl, subst (λ (x : TheRun TheSide). One s x) (sym same) one)
  first (suc k) s m t one h = (h.0, first k s m h.0 one h.1, h.2)

  pub before : (s m t : TheRun TheSide) → One s m → Some_ m t → Some_ s t
  before s m t one some = (suc some.0, first some.0 s m t one some.1)

  -- however its counted turns ended, turns lead on to the end
  pub goes_on : (limit : ℕ) (e : RunEnd) (s t : TheRun TheSide) → GoesOn shared_ways (task plan jobs limit) e s t → Some_ s t
  goes_on limit Finished s t h = h
  goes_on limit Unfinished s t h = none s t h
  goes_on limit Told s t h = none s t h

-- ---- logs, one behind the other

pub goes_then : (jobs : List CoreJob) (a b : List LogEntry) (s m t : TheRun TheSide) → Goes shared_ways jobs s a m → Goes shared_ways jobs m b t → Goes shared_ways jobs s (a ++ b) t
goes_then jobs [] b s m t same h = subst (λ (x : TheRun TheSide). Goes shared_ways jobs x b t) same h
goes_then jobs (log_entry ∷ a) b s m t g h = (g.0, g.1, g.2, goes_then jobs a b g.0 m t g.3 h)
