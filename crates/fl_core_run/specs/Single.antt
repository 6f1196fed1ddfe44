-- Of a dispatcher's turn by itself: whether one is due.
use Rattle.std.specs.Prelude.{ℕ, ◌≡◌, ◌⊎◌, Bool, true, false, List, Option, Some, None}
use Rattle.fl_base.specs.declared.identity.EndId.{EndId}
use Rattle.fl_core.specs.View.{place_of}
use Rattle.fl_core.specs.declared.core_job.CoreJob.{CoreJob}
use Rattle.fl_core_run.specs.declared.lent.LentTakeEnd.{LentTakeEnd}
use Rattle.fl_core_run.specs.Run.{TheRun, lent_due}
use Rattle.fl_core_run.specs.Steps.{awaits}

-- the end at which the turn looks, and whether that is to wait
pub record LooksAt {S : Type 0} (jobs : List CoreJob) (s : TheRun S) (d : ℕ) (at : LentTakeEnd) (waits : Bool) : Type 0 where
  pub due : lent_due s d ≡ Some at
  pub name : EndId
  pub place : place_of s.core name ≡ Some at.end
  pub awaits_is : awaits jobs s name ≡ waits

-- a turn is due at this end, or at none: it is to wait, or there is none at which the turn looks
abbrev pub TellsDue : {S : Type 0} → List CoreJob → TheRun S → ℕ → Option LentTakeEnd → Type 0
TellsDue jobs s d (Some at) = LooksAt jobs s d at false
TellsDue jobs s d None = (lent_due s d ≡ None) ⊎ ((at : LentTakeEnd) × LooksAt jobs s d at true)
