-- Sound states: the counts of rings.
use Rattle.std.specs.Prelude.{ℕ, ◌≡◌, ◌≤◌, ◌+◌, ◌^◌, true, List, [], ◌∷◌, length, map, slice_get, Some}
use Rattle.fl_model.specs.Rings.{RingLabel, Half, Ring}
use Rattle.fl_model.specs.State.{State}
use Rattle.fl_model.specs.Making.{is_ring_size}

-- from low over the numbers to high nothing falls
abbrev pub Rises : ℕ → List ℕ → ℕ → Type 0
Rises low [] high = low ≤ high
Rises low (x ∷ xs) high = (low ≤ x) × Rises x xs high

-- what a direction's writer knows, then what the labels of the other direction tell of it, then what its
-- reader has told
pub record HalfCounts (size : ℕ) (h : Half) (others : List RingLabel) : Type 0 where
  pub standing : h.sent ≡ h.read + length h.waiting
  pub telling : Rises h.known (map (λ (l : RingLabel). l.told) others) h.told
  pub told : h.told ≤ h.read
  pub room : h.sent ≤ h.known + size

-- in both directions; what tells of one stands among the labels of the other
pub record RingCounts (r : Ring) : Type 0 where
  pub first : HalfCounts r.size r.by_first r.by_second.waiting
  pub second : HalfCounts r.size r.by_second r.by_first.waiting

abbrev pub RingsCount : State → Type 0
RingsCount s = (n : ℕ) (r : Ring) → slice_get s.rings n ≡ Some r → RingCounts r

-- a power of two from 4 to 1,024 as its size, and at most 2^62 fragments each way
pub record RingFits (r : Ring) : Type 0 where
  pub size : is_ring_size r.size ≡ true
  pub first : r.by_first.sent ≤ 2 ^ 62
  pub second : r.by_second.sent ≤ 2 ^ 62

abbrev pub RingsFit : State → Type 0
RingsFit s = (n : ℕ) (r : Ring) → slice_get s.rings n ≡ Some r → RingFits r
