-- An index that counts up and goes round a number of places.
use Rattle.std.specs.Prelude.{ℕ, ◌+◌, ◌/◌, ◌%◌}

-- the epoch of the fragment of index i in a ring of n places: 1 in its first round, then 0, 1, and so on
abbrev pub epoch_at : ℕ → ℕ → ℕ
epoch_at n i = (i / n + 1) % 2

-- what contracts see of a cursor
pub record TheCursor : Type 0 where
  pub index : ℕ
  pub size : ℕ
