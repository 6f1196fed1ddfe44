-- What stands in a core's hand is one of the things that were handed out; a side of a new ring put and took nothing.
use Rattle.std.proofs.Common.{◌≡◌, ap, subst, ℕ, zero, suc, ◌==◌, Bool, true, false, if◌then◌else◌, List, [], ◌∷◌, ◌++◌, slice_get, Some}
use Rattle.fl_ring.specs.Duo.{TheDuo}
use Rattle.fl_ring.specs.SharedSides.{TheSide}
use Rattle.fl_cores_shares.specs.Shares.{own_things, AreNew}
use Rattle.fl_cores_shares.specs.Settled.{TwoSides, sides_of}
use Rattle.fl_cores_parts.specs.Shares.{AreNewRings}
use Rattle.fl_core_refines.specs.CutStart.{IsFirstSide}

-- it has a number among all
abbrev pub IsOne : {T : Type 0} → List T → T → Type 0
IsOne things x = (m : ℕ) × (slice_get things m ≡ Some x)

pub own_is_one : {T : Type 0} (core : ℕ) (owners : List ℕ) (things : List T) (i : ℕ) (x : T) → slice_get (own_things core owners things) i ≡ Some x → IsOne things x
own_is_one core [] things i x at = absurd (cc)
own_is_one core (o ∷ owners) [] i x at = absurd (cc)
own_is_one core (o ∷ owners) (t ∷ things) i x at = by (o == core) i at (λ n is. own_is_one core owners things n x is) where
  later : IsOne things x → IsOne (t ∷ things) x
  later (m, is) = (suc m, is)

  by : (b : Bool) (n : ℕ) → slice_get ((if b then t ∷ [] else []) ++ own_things core owners things) n ≡ Some x
      → ((m : ℕ) → slice_get (own_things core owners things) m ≡ Some x → IsOne things x) → IsOne (t ∷ things) x
  by true zero is rest = (0, is)
  by true (suc n) is rest = later (rest n is)
  by false n is rest = later (rest n is)

pub new_one : (size : ℕ) (one two : TheSide) → AreNew size one two → IsFirstSide one × IsFirstSide two
new_one size one two new = (
  record {
    sent = ap (λ (s : TheSide). s.sent) new.one_is;
    known = ap (λ (s : TheSide). s.known) new.one_is;
    got = ap (λ (s : TheSide). s.got) new.one_is;
    told = ap (λ (s : TheSide). s.told) new.one_is;
  },
  record {
    sent = ap (λ (s : TheSide). s.sent) new.two_is;
    known = ap (λ (s : TheSide). s.known) new.two_is;
    got = ap (λ (s : TheSide). s.got) new.two_is;
    told = ap (λ (s : TheSide). s.told) new.two_is;
  },
)

pub new_sides : (rings : List TheDuo) (pairs : List TwoSides) → AreNewRings rings pairs → (n : ℕ) (s : TheSide) → slice_get (sides_of pairs) n ≡ Some s → IsFirstSide s
new_sides [] [] h n s at = absurd (cc)
new_sides [] (p ∷ pairs) h n s at = absurd h
new_sides (r ∷ rings) [] h n s at = absurd h
new_sides (r ∷ rings) (p ∷ pairs) h zero s at = let same : p.one ≡ s = cc in subst IsFirstSide same (new_one r.size p.one p.two h.0).0
new_sides (r ∷ rings) (p ∷ pairs) h (suc zero) s at = let same : p.two ≡ s = cc in subst IsFirstSide same (new_one r.size p.one p.two h.0).1
new_sides (r ∷ rings) (p ∷ pairs) h (suc (suc n)) s at = new_sides rings pairs h.1 n s at
