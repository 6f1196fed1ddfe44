-- A word that the machine is written with.
use Rattle.std.specs.Prelude.{ℕ, List, slice_get, slice_set}
use Rattle.fl_base.specs.Given.{given}

-- the list with its element at a place changed, if there is one
abbrev pub changed_at : {X : Type 0} → ℕ → (X → X) → List X → List X
changed_at n f xs = given (slice_get xs n) xs λ x. slice_set xs n (f x)
