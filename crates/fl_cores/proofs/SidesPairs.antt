-- Rings by their two sides, and the sides by number.
use Rattle.std.proofs.Common.{◌≡◌, refl, ap, ◌∙◌, subst, ℕ, zero, suc, ◌+◌, ◌*◌, ◌<◌, List, [], ◌∷◌, length, slice_get, Some, arith}
use Rattle.fl_ring.specs.Duo.{TheDuo}
use Rattle.fl_ring.specs.SharedSides.{TheSide}
use Rattle.fl_cores_shares.specs.Shares.{AreNew}
use Rattle.fl_cores_shares.specs.Settled.{TwoSides, sides_of, Each}
use Rattle.fl_cores_parts.specs.Shares.{AreNewRings}

-- the sides of ring r are number 2 r and 2 r + 1
pub side_one : (pairs : List TwoSides) (r : ℕ) (p : TwoSides) → slice_get pairs r ≡ Some p → slice_get (sides_of pairs) (2 * r) ≡ Some p.one
side_one [] r p is = absurd (cc)
side_one (q ∷ pairs) zero p is = let same : q ≡ p = cc in ap (λ (x : TwoSides). Some x.one) same
side_one (q ∷ pairs) (suc r) p is =
    let next : 2 * suc r ≡ suc (suc (2 * r)) = omega arith in
    ap (slice_get (sides_of (q ∷ pairs))) next ∙ side_one pairs r p is

pub side_two : (pairs : List TwoSides) (r : ℕ) (p : TwoSides) → slice_get pairs r ≡ Some p → slice_get (sides_of pairs) (2 * r + 1) ≡ Some p.two
side_two [] r p is = absurd (cc)
side_two (q ∷ pairs) zero p is = let same : q ≡ p = cc in ap (λ (x : TwoSides). Some x.two) same
side_two (q ∷ pairs) (suc r) p is =
    let next : 2 * suc r + 1 ≡ suc (suc (2 * r + 1)) = omega arith in
    ap (slice_get (sides_of (q ∷ pairs))) next ∙ side_two pairs r p is

pub each_at : (P : TwoSides → Type 0) (pairs : List TwoSides) (r : ℕ) (p : TwoSides) → Each P pairs → slice_get pairs r ≡ Some p → P p
each_at P [] r p all is = absurd (cc)
each_at P (q ∷ pairs) zero p all is = let same : q ≡ p = cc in subst P same all.0
each_at P (q ∷ pairs) (suc r) p all is = each_at P pairs r p all.1 is

-- ---- new rings

pub record IsNewRing (rings : List TheDuo) (pairs : List TwoSides) (r : ℕ) : Type 0 where
  pub ring : TheDuo
  pub pair : TwoSides
  pub pair_is : slice_get pairs r ≡ Some pair
  pub new : AreNew ring.size pair.one pair.two

pub new_ring : (rings : List TheDuo) (pairs : List TwoSides) (r : ℕ) → AreNewRings rings pairs → r < length rings → IsNewRing rings pairs r
new_ring [] pairs r new below = absurd (omega (arith, below))
new_ring (x ∷ rings) [] r new below = absurd new
new_ring (x ∷ rings) (p ∷ pairs) zero new below = record { ring = x; pair = p; pair_is = refl; new = new.0 }
new_ring (x ∷ rings) (p ∷ pairs) (suc r) new below =
    let it = new_ring rings pairs r new.1 (omega (arith, below)) in
    record { ring = it.ring; pair = it.pair; pair_is = it.pair_is; new = it.new }

-- ---- sides by twos

pub record ArePairs (sides : List TheSide) (n : ℕ) : Type 0 where
  pub pairs : List TwoSides
  pub count : length pairs ≡ n
  pub same : sides_of pairs ≡ sides

pub by_twos : (n : ℕ) (sides : List TheSide) → length sides ≡ 2 * n → ArePairs sides n
by_twos zero [] many = record { pairs = []; count = refl; same = refl }
by_twos zero (s ∷ sides) many = absurd (omega (arith, many))
by_twos (suc n) [] many = absurd (omega (arith, many))
by_twos (suc n) (s ∷ []) many = absurd (omega (arith, many))
by_twos (suc n) (s ∷ t ∷ sides) many =
    let rest = by_twos n sides (omega (arith, many)) in
    record {
      pairs = record { one = s; two = t } ∷ rest.pairs;
      count = ap suc rest.count;
      same = ap (λ (xs : List TheSide). s ∷ t ∷ xs) rest.same;
    }
