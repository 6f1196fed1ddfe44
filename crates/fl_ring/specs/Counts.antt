-- How a 16-bit number in a control word names a full count.
use Rattle.std.specs.Prelude.{ℕ, ◌≡◌, ◌+◌, ◌-◌, ◌%◌, ◌≤◌, List, [], ◌∷◌, slice_index}
use Rattle.fl_base.specs.declared.fragment.Frag.{Frag}
use Rattle.fl_base.specs.Control.{told_of}
use Rattle.fl_ring.specs.Way.{slot}

-- the first count from the one known on that agrees with the number modulo 65,536
abbrev pub count_from : ℕ → ℕ → ℕ
count_from known number = known + (number + 65536 - known % 65536) % 65536

-- the count known after a look at the first of these fragments: the count that it tells
abbrev pub known_after : ℕ → List Frag → ℕ
known_after known [] = known
known_after known (frag ∷ rest) = count_from known (told_of frag.control)

-- the count known once all of these fragments are taken
abbrev pub last_count : ℕ → List Frag → ℕ
last_count known [] = known
last_count known (frag ∷ rest) = last_count (count_from known (told_of frag.control)) rest

-- What a side has told is what its last control word says, modulo 65,536. Its way is at word b, with n
-- slots, and so many fragments were put into it, the first of them before the start; where none was put
-- since, so many are told as were put then.
pub record LastTells (b n start : ℕ) (words : List ℕ) (sent told : ℕ) : Type 0 where
  pub since : start ≤ sent
  pub none_put : sent ≡ start → told ≡ start
  pub last_put : (i : ℕ) → start ≤ i → i + 1 ≡ sent → told_of (slice_index words (slot b n i + 7)) ≡ told % 65536
