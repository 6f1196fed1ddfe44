-- Hands, with a thing more. Only the code needs it.
use Rattle.std.specs.Prelude.{ℕ, zero, suc, [], ◌∷◌, ◌++◌}
use Rattle.fl_cores_shares.specs.Shares.{Holdings}

-- with a thing behind the others in a core's hand
abbrev pub given_to : {T : Type 0} → ℕ → T → Holdings T → Holdings T
given_to core thing [] = []
given_to zero thing (holding ∷ holdings) = (holding ++ thing ∷ []) ∷ holdings
given_to (suc core) thing (holding ∷ holdings) = holding ∷ given_to core thing holdings
