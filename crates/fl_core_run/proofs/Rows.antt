-- Steps in a row, one for each thing of a list.
use Rattle.std.proofs.Common.{◌≡◌, subst, ℕ, suc, ◌+◌, ◌<◌, ◌≤◌, List, length, slice_index_or, arith}
use Rattle.std.proofs.lemmas.Option.{slice_get-get_or}
use Rattle.fl_core_run.specs.Turn.{Swept, At}
use Rattle.fl_core_run.specs.Stops.{StopsAmong}

pub one_more : {S : Type 0} (step : ℕ → S → S → Type 0) (n : ℕ) (s m t : S) → Swept step n s m → step n m t → Swept step (n + 1) s t
one_more step n s m t before h = let e : suc n ≡ n + 1 = omega arith in subst (λ (k : ℕ). Swept step k s t) e (m, before, h)

pub up_to : {S : Type 0} (step : ℕ → S → S → Type 0) (n all : ℕ) (s t : S) → Swept step n s t → n ≤ all → all ≤ n → Swept step all s t
up_to step n all s t swept few past = let e : n ≡ all = omega (arith, few, past) in subst (λ (k : ℕ). Swept step k s t) e swept

-- the thing at a place of the list, as it is read there
module _ {X S : Type 0} (xs : List X) (n : ℕ) (other : X) (s m t : S) (within : n < length xs) where
  pub for_one_more : (step : X → S → S → Type 0) → Swept (At xs step) n s m → step (slice_index_or xs n other) m t → Swept (At xs step) (n + 1) s t
  for_one_more step before h = one_more (At xs step) n s m t before (slice_index_or xs n other, slice_get-get_or xs n other within, h)

  pub stopped_at : (step stop : X → S → S → Type 0) → Swept (At xs step) n s m → stop (slice_index_or xs n other) m t → StopsAmong xs step stop s t
  stopped_at step stop before h =
      record { steps = n; few = within; before = m; whole = before; stops = (slice_index_or xs n other, slice_get-get_or xs n other within, h) }
