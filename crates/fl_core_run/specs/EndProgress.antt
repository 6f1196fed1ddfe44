-- An end's progress, as contracts see it: where the jobs of an end lie.
use Rattle.std.specs.Prelude.{ℕ, ◌≡◌, ◌+◌, ◌==◌, ◌&&◌, nat_lt, Bool, if◌then◌else◌, List, [], ◌∷◌, ◌++◌, length, slice_get, slice_set, Option, Some, None}
use Rattle.fl_base.specs.declared.identity.EndId.{EndId}
use Rattle.fl_base.specs.Numbered.{most_bindings}
use Rattle.fl_value_data.specs.declared.value.Call.{Call}
use Rattle.fl_core.specs.View.{slot_of}

-- what is to be done at an end, and what came of it
pub record TheEndProgress : Type 0 where
  -- its jobs, in order, by their places among all jobs, and how many of them are done
  pub jobs : List ℕ
  pub done : ℕ
  -- how many calls are to be handled at the end, and those that were
  pub due : ℕ
  pub handled : List Call
  -- the number with which the opening of its binding was refused; 0 where it wasn't
  pub refused : ℕ

-- where the end's progress of an end is, if it has one
abbrev pub progress_place : List TheEndProgress → EndId → Option ℕ
progress_place progresses e =
    if nat_lt e.binding most_bindings then (if nat_lt (slot_of e) (length progresses) then Some (slot_of e) else None) else None

-- one job more is done
abbrev pub advanced : TheEndProgress → TheEndProgress
advanced d = record d { done = d.done + 1 }

-- one call more was handled
abbrev pub with_handled : Call → TheEndProgress → TheEndProgress
with_handled c d = record d { handled = d.handled ++ c ∷ [] }

-- the opening was refused
abbrev pub with_refusal : ℕ → TheEndProgress → TheEndProgress
with_refusal number d = record d { refused = number }

-- the end's progress at place n has changed so
pub record ChangesProgress (progresses : List TheEndProgress) (n : ℕ) (change : TheEndProgress → TheEndProgress)
    (progresses2 : List TheEndProgress) : Type 0 where
  pub progress : TheEndProgress
  pub progress_is : slice_get progresses n ≡ Some progress
  pub rest : progresses2 ≡ slice_set progresses n (change progress)

-- so has that of an end; where it has none nothing has
abbrev pub ChangesIf : Option ℕ → List TheEndProgress → (TheEndProgress → TheEndProgress) → List TheEndProgress → Type 0
ChangesIf None progresses change progresses2 = progresses2 ≡ progresses
ChangesIf (Some n) progresses change progresses2 = ChangesProgress progresses n change progresses2

-- all its jobs are done, and as many calls are handled as are to be
abbrev pub is_clear : TheEndProgress → Bool
is_clear d = (d.done == length d.jobs) && (length d.handled == d.due)
