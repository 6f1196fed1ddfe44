-- For proofs: the two sides of a ring of two directions, as its code keeps them beside the words.
use Rattle.std.specs.Prelude.{ℕ, ◌≡◌, ◌+◌, ◌-◌, ◌*◌, ◌≤◌, ◌^◌, ◌⊎◌, List, length}
use Rattle.fl_link.specs.Looks.{Look}
use Rattle.fl_ring.specs.Counts.{last_count, LastTells}
use Rattle.fl_ring.specs.Way.{Marked, standing, IsClear}
use Rattle.fl_ring.specs.Duo.{TheHalf, TheDuo}
use Rattle.fl_ring.specs.declared.halves.DuoHalf.{DuoHalf}

-- the way from a side w that writes it to a side r that reads it
pub record Direction (n : ℕ) (words : List ℕ) (w r : DuoHalf) : Type 0 where
  pub from : r.other ≡ w.base
  pub put_size : w.put.size ≡ n
  pub take_size : r.take.size ≡ n
  pub marked : Marked w.base n words r.told w.put.index
  pub told_taken : r.told ≤ r.take.index
  pub taken_sent : r.take.index ≤ w.put.index
  pub most : w.put.index ≤ 2 ^ 62
  pub room : w.put.index ≤ w.known + n
  -- what the reader has told rides in its fragments that the writer has not taken
  pub counts : last_count w.known (standing r.base n words w.take.index (r.put.index - w.take.index)) ≡ r.told
  -- what the writer has told stands in its last control word
  pub last : LastTells w.base n 0 words w.put.index w.told
  -- slots that were never put into are zero
  pub clear : IsClear w.base n words w.put.index

-- two sides over one table
pub record InStep (n : ℕ) (words : List ℕ) (a b : DuoHalf) : Type 0 where
  pub few : n ≤ 1024
  pub wide : length words ≡ 16 * n
  pub apart : ((a.base ≡ 0) × (b.base ≡ 8 * n)) ⊎ ((a.base ≡ 8 * n) × (b.base ≡ 0))
  pub there : Direction n words a b
  pub back : Direction n words b a

-- what the words show of side a, where b is the other
abbrev pub half_of : ℕ → List ℕ → DuoHalf → DuoHalf → TheHalf
half_of n words a b = record {
  sent = a.put.index;
  known = a.known;
  told = a.told;
  read = standing b.base n words a.told (a.take.index - a.told);
  waiting = standing b.base n words a.take.index (b.put.index - a.take.index);
}

-- and of both
abbrev pub duo_of : ℕ → List ℕ → DuoHalf → DuoHalf → TheDuo
duo_of n words a b = record { size = n; one = half_of n words a b; two = half_of n words b a }

-- Whatever the other side is: the sides stay in step, each at its place, and what the words show goes
-- on by the relation.
abbrev pub Goes : (ℕ → TheHalf → TheHalf → Look → TheHalf → TheHalf → Type 0) → List ℕ → DuoHalf → Look → List ℕ → DuoHalf → Type 0
Goes R words a look words' a' = (n : ℕ) (b : DuoHalf) → InStep n words a b
    → InStep n words' a' b × (a'.base ≡ a.base) × R n (half_of n words a b) (half_of n words b a) look (half_of n words' a' b) (half_of n words' b a')
