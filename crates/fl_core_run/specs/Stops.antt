-- How far a turn came to which memory was refused, and a core's run with it. All before is whole and in its order; just one thing
-- was under way then: that is told, and that it would do something.
use Rattle.std.specs.Prelude.{ℕ, ◌≡◌, ◌⊎◌, ◌<◌, false, List, length, Some, Ok, Err}
use Rattle.std.specs.declared.alloc.AllocError.{AllocError}
use Rattle.fl_base.specs.declared.fragment.Frag.{Frag}
use Rattle.fl_base.specs.declared.identity.EndId.{EndId}
use Rattle.fl_base.specs.declared.identity.LinkId.{LinkId}
use Rattle.fl_value_data.specs.declared.value.Call.{Call}
use Rattle.fl_core.specs.declared.turn_answer.TurnAnswer.TheVariants.{Handle}
use Rattle.fl_core.specs.declared.answer.LinkFront.TheVariants.{Message}
use Rattle.fl_core.specs.declared.fault.LinkReceiveFault.TheVariants.{Memory}
use Rattle.fl_core.specs.Hearing.{HearsFragLast}
use Rattle.fl_core.specs.View.{place_of}
use Rattle.fl_core.specs.declared.core_job.CoreJob.{CoreJob}
use Rattle.fl_core_run.specs.declared.lent.LentTakeEnd.{LentTakeEnd}
use Rattle.fl_core_run.specs.declared.plan.TurnPlan.{TurnPlan}
use Rattle.fl_core_run.specs.Run.{SideRelations, TheRun, next_job, lent_link_side, lent_due}
use Rattle.fl_core_run.specs.LogEntries.{looked, turned, dispatcher_turn, TurnsOver, Does, Happens}
use Rattle.fl_core_run.specs.Steps.{Forwards, Says, Serves, awaits, TakesTurn}
use Rattle.fl_core_run.specs.Turn.{Swept, At, ForEach, Turned}
use Rattle.fl_core_run.specs.Wants.{DoesJob, HandlesCall}

-- ---- what was under way

-- for a link: a monitors' message was seen to stand first, and is left there; it would be heard, and something is said then
pub record LeavesMessage {S : Type 0} (w : SideRelations S) (l : LinkId) (s t : TheRun S) : Type 0 where
  pub side : ℕ
  pub link_side : lent_link_side s l ≡ Some side
  pub frag : Frag
  pub looks : Happens w (looked side l (Ok (Message frag))) s t
  pub hears : HearsFragLast t.offers l frag t.core Memory

-- for an end: its next job is left, and nothing has happened; it is a call that would be accepted, or an opening that would begin a circuit
pub record LeavesJob {S : Type 0} (jobs : List CoreJob) (name : EndId) (s t : TheRun S) : Type 0 where
  pub same : t ≡ s
  pub does : DoesJob s name (next_job jobs s name)

-- for a dispatcher: the end that was due saw a fragment and left it; or it handled a call, and that doesn't stand at its end's progress
abbrev pub LeavesCall : {S : Type 0} → SideRelations S → ℕ → EndId → LentTakeEnd → TheRun S → TheRun S → Type 0
LeavesCall w d name due s t =
    ((error : AllocError) × TurnsOver w (dispatcher_turn d due.end (Err error)) due.inlet s t)
    ⊎ ((call : Call) × Does w (turned d name due.inlet (Handle call)) s t)

pub record LeavesTurn {S : Type 0} (w : SideRelations S) (jobs : List CoreJob) (d : ℕ) (s t : TheRun S) : Type 0 where
  pub due : LentTakeEnd
  pub due_is : lent_due s d ≡ Some due
  pub name : EndId
  pub name_is : place_of s.core name ≡ Some due.end
  pub ready : awaits jobs s name ≡ false
  pub leaves : LeavesCall w d name due s t
  -- so by `leaves` the fragment makes a call whole
  pub handles : HandlesCall w d due s

-- ---- how far a turn came

-- some whole steps of so many, and then one that stopped
pub record StopsIn {S : Type 0} (step stop : ℕ → S → S → Type 0) (n : ℕ) (s t : S) : Type 0 where
  pub steps : ℕ
  pub few : steps < n
  pub before : S
  pub whole : Swept step steps s before
  pub stops : stop steps before t

-- a step for each thing of a list, up to the one that stopped
abbrev pub StopsAmong : {X S : Type 0} → List X → (X → S → S → Type 0) → (X → S → S → Type 0) → S → S → Type 0
StopsAmong xs step stop s t = StopsIn (At xs step) (At xs stop) (length xs) s t

-- it came to its forwards; to the jobs and writes of its ends; to its dispatchers
pub data PartOfTurn {S : Type 0} (w : SideRelations S) (plan : TurnPlan) (jobs : List CoreJob) (s t : TheRun S) : Type 0 where
  in_forwards : StopsAmong plan.links.items (Forwards w) (LeavesMessage w) s t → PartOfTurn w plan jobs s t
  in_serves : (m n : TheRun S) → ForEach plan.links.items (Forwards w) s m → ForEach plan.links.items (Says w) m n
      → StopsAmong plan.ends.items (Serves w jobs) (LeavesJob jobs) n t → PartOfTurn w plan jobs s t
  in_turns : (m n served : TheRun S) → ForEach plan.links.items (Forwards w) s m → ForEach plan.links.items (Says w) m n
      → ForEach plan.ends.items (Serves w jobs) n served → StopsIn (TakesTurn w jobs) (LeavesTurn w jobs) plan.dispatchers served t → PartOfTurn w plan jobs s t

-- ---- how far a run came

-- so many whole turns, and then a part of one
abbrev pub StopsInTurn : {S : Type 0} → SideRelations S → TurnPlan → List CoreJob → TheRun S → TheRun S → Type 0
StopsInTurn {S} w plan jobs s t = (turns : ℕ) × (m : TheRun S) × Turned w plan jobs turns s m × PartOfTurn w plan jobs m t
