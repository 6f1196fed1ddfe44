-- One turn of a core, and turns in a row.
use Rattle.std.specs.Prelude.{ℕ, zero, suc, ◌≡◌, List, length, slice_get, Some}
use Rattle.fl_core.specs.declared.core_job.CoreJob.{CoreJob}
use Rattle.fl_core_run.specs.declared.plan.TurnPlan.{TurnPlan}
use Rattle.fl_core_run.specs.Run.{SideRelations, TheRun}
use Rattle.fl_core_run.specs.Steps.{Forwards, Says, Tells, Serves, Acknowledges, TakesTurn}

-- ---- one after another

-- so many steps, the one of number 0 first
abbrev pub Swept : {S : Type 0} → (ℕ → S → S → Type 0) → ℕ → S → S → Type 0
Swept step zero s t = t ≡ s
Swept {S} step (suc n) s t = (m : S) × Swept step n s m × step n m t

-- the step of number n, for the thing at place n of a list
abbrev pub At : {X S : Type 0} → List X → (X → S → S → Type 0) → ℕ → S → S → Type 0
At {X} xs step n s t = (x : X) × (slice_get xs n ≡ Some x) × step x s t

-- a step for each thing of a list, in order
abbrev pub ForEach : {X S : Type 0} → List X → (X → S → S → Type 0) → S → S → Type 0
ForEach xs step s t = Swept (At xs step) (length xs) s t

-- ---- one turn

-- over the links, ends and dispatchers of the plan
pub record OneTurn {S : Type 0} (w : SideRelations S) (plan : TurnPlan) (jobs : List CoreJob) (s t : TheRun S) : Type 0 where
  -- a forward for each link
  pub forwarded : TheRun S
  pub forwards : ForEach plan.links.items (Forwards w) s forwarded
  -- a monitor write for each link
  pub said : TheRun S
  pub says : ForEach plan.links.items (Says w) forwarded said
  -- for each end its next job where that can be done, and one write
  pub served : TheRun S
  pub serves : ForEach plan.ends.items (Serves w jobs) said served
  -- a turn for each dispatcher
  pub turned : TheRun S
  pub turns : Swept (TakesTurn w jobs) plan.dispatchers served turned
  -- an acknowledgement for each link, and for each end of a ring
  pub told : TheRun S
  pub tells : ForEach plan.links.items (Tells w) turned told
  pub acks : ForEach plan.ends.items (Acknowledges w) told t

-- so many turns
abbrev pub Turned : {S : Type 0} → SideRelations S → TurnPlan → List CoreJob → ℕ → TheRun S → TheRun S → Type 0
Turned w plan jobs k s t = Swept (λ n. OneTurn w plan jobs) k s t
