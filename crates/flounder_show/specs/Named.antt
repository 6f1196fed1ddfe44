-- A table with its arguments' names.
use Rattle.std.specs.Prelude.{◌≡◌, ℕ, List, [], ◌∷◌, ◌++◌}

-- a text stands in another, in order, with other bytes between its own
abbrev pub StandsIn : List ℕ → List ℕ → Type 0
StandsIn [] other = Unit {0}
StandsIn (byte ∷ bytes) other = (before behind : List ℕ) × (other ≡ before ++ byte ∷ behind) × StandsIn bytes behind
