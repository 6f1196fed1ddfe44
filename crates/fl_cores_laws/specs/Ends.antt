-- An end as its core's run begins, and what it did in the run.
use Rattle.std.specs.Prelude.{ℕ, ◌≡◌, ◌⊎◌, false, List, [], length, slice_get, Option, Some}
use Rattle.fl_base.specs.declared.fragment.Frag.{Frag}
use Rattle.fl_base.specs.declared.identity.EndId.{EndId}
use Rattle.fl_ring.specs.SharedSides.{TheSide}
use Rattle.fl_endpoint.specs.View.{TheEnd, nothing_to_send, has_rules, rule_at as rule_of_end}
use Rattle.fl_endpoint.specs.Accounts.{Sound as IsEnd}
use Rattle.fl_core.specs.BoardView.{TheEndAtChannel}
use Rattle.fl_core.specs.declared.wiring.WiredEnd.{WiredEnd}
use Rattle.fl_core.specs.declared.wiring.EndWiring.{EndWiring}
use Rattle.fl_core.specs.View.{place_of}
use Rattle.fl_core.specs.declared.core_job.CoreJob.{CoreJob}
use Rattle.fl_core_run.specs.EndProgress.{TheEndProgress}
use Rattle.fl_core_run.specs.Run.{TheRun}
use Rattle.fl_core_run.specs.Accepted.{count_waiting}
use Rattle.fl_core.specs.Jobs.{HasNoRule}
use Rattle.fl_core_run_laws.specs.Made.{progress_of}
use Rattle.fl_core_run_laws.specs.Carried.{SetsNone, RulesFirst, rules_at, calls_handled, traffic}
use Rattle.fl_core_run_laws.specs.Agree.{SinceMade}
use Rattle.fl_cores_jobs.specs.EndWork.{TheEndWork, rule_at, is_ruled}
use Rattle.fl_cores_laws.specs.Cores.{OneCore}

-- ---- as the run begins

-- its end's progress has the jobs of its end's work, of which none is done, and no call was handled
pub record HasProgress (d : TheEndWork) (s : TheRun TheSide) (e : EndId) : Type 0 where
  pub progress : TheEndProgress
  pub progress_is : progress_of s e ≡ Some progress
  pub jobs : progress.jobs ≡ d.jobs
  pub none_done : progress.done ≡ 0
  pub none_handled : progress.handled ≡ []

-- these are the rules of its end's work
abbrev pub AreItsRules : List (Option ℕ) → TheEndWork → Type 0
AreItsRules rules d = (msg : ℕ) → rule_of_end rules msg ≡ rule_at d.rules msg

-- it stands at its core, on this wiring and off links, with nothing to send and no part of a call; its rules are set
pub record StandsReady (jobs : List CoreJob) (d : TheEndWork) (s : TheRun TheSide) (e : EndId) (wiring : EndWiring) : Type 0 where
  pub place : ℕ
  pub place_is : place_of s.core e ≡ Some place
  pub wired_end : WiredEnd
  pub wired_end_is : slice_get s.core.wired_ends place ≡ Some wired_end
  pub wiring_is : wired_end.wiring ≡ wiring
  pub seat : TheEndAtChannel
  pub seat_is : slice_get s.core.board.seats place ≡ Some seat
  pub circuit : seat.end.circuit ≡ Some 0
  pub outgoing : seat.end.outgoing ≡ nothing_to_send
  pub parts : seat.end.parts ≡ []
  pub rules : AreItsRules seat.end.rules d
  pub no_more : HasNoRule jobs d.jobs

-- ---- in the run

-- since it was made it put and took these fragments, and came to this; it had the rules of its end's work before it handled a call
pub record EndRan (d : TheEndWork) (c : OneCore) (e : EndId) (put took : List Frag) (x : TheEnd) : Type 0 where
  -- the rules that it had at first
  pub had : List (Option ℕ)
  pub since : SinceMade (traffic e had c.log put took) x
  pub rules : (calls_handled e c.log ≡ []) ⊎ AreItsRules (rules_at e had c.log) d
  pub first : RulesFirst e c.log
  pub unruled : is_ruled d ≡ false → (has_rules had ≡ false) × SetsNone e c.log
  -- it is sound, and as many replies wait there as are told of this end of the core
  pub sound : IsEnd x
  pub waiting : count_waiting c.finish e ≡ length x.outgoing.waiting
