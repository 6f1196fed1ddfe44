-- Of the rings of cores that are settled, what each side took is the first of what the other put.
use Rattle.std.proofs.Common.{◌≡◌, refl, sym, ap, ◌∙◌, subst, ℕ, zero, suc, ◌+◌, ◌<◌, List, [], ◌∷◌, ◌++◌, length, map, slice_get, Option, Some, None, arith}
use Rattle.std.specs.List.{range_with_len, AllByRecursion}
use mathlib.Core.Option.{some}
use lib.ListN.{get_elem?}
use Rattle.fl_ring.specs.SharedSides.{TheSide, SidesNear}
use Rattle.fl_history_rings.specs.declared.board.RingEnds.{RingEnds}
use Rattle.fl_history_rings.specs.declared.board.SideEnd.{SideEnd}
use Rattle.fl_history_rings.specs.Rings.{mate, sides_of}
use Rattle.fl_history_rings.specs.Cores.{TheCore, IsRingOf}
use Rattle.fl_history_rings.proofs.Plans.{both_paired, both_sized}
use Rattle.fl_history_sides.specs.States.{TheHistorySide, numbers_of, shown_of}
use Rattle.fl_history_sides.specs.Core.{IsOwnSide}
use Rattle.fl_history_sides.proofs.Near.{rings_are_near}
use Rattle.fl_cores_shares.specs.Shares.{Holdings, holding_at, own_before, AreHandedOut}
use Rattle.fl_cores_shares.specs.Settled.{TwoSides, Each, IsNear, sides_of as both_of}
use Rattle.fl_history_shares.specs.Dealt.{owners_in, numbers_below, shown_hands}
use Rattle.fl_history_shares.specs.Settled.{IsCoreOf, AreCoresOf, AreSettled, SettledAreNear}
use Rattle.fl_history_shares.proofs.Own.{none_there, all_at, in_hand, range_at}

-- ---- the core of a hand

pub record HasCore (cores : List TheCore) (hand : List TheHistorySide) : Type 0 where
  pub at : ℕ
  pub core : TheCore
  pub there : get_elem? cores at ≡ some core
  pub is : IsCoreOf core hand

next_core : (cores : List TheCore) (c : TheCore) (hand : List TheHistorySide) → HasCore cores hand → HasCore (c ∷ cores) hand
next_core cores c hand has = record { at = suc has.at; core = has.core; there = has.there; is = has.is }

has_core : (hands : Holdings TheHistorySide) (cores : List TheCore) (k place : ℕ) (p : TheHistorySide) → AreCoresOf hands cores → slice_get (holding_at hands k) place ≡ Some p
    → HasCore cores (holding_at hands k)
has_core [] cores k place p are at = absurd (none_there p at)
has_core ([] ∷ hands) cores zero place p are at = absurd (none_there p at)
has_core ([] ∷ hands) cores (suc k) place p are at = has_core hands cores k place p are at
has_core ((q ∷ hand) ∷ hands) [] k place p are at = absurd are
has_core ((q ∷ hand) ∷ hands) (c ∷ cores) zero place p are at = record { at = zero; core = c; there = refl; is = are.0 }
has_core ((q ∷ hand) ∷ hands) (c ∷ cores) (suc k) place p are at = next_core cores c (holding_at hands k) (has_core hands cores k place p are.1 at)

-- ---- sides by their numbers

-- the side of this number is the core's, and is shown so
pub record HasSide (cores : List TheCore) (number : ℕ) (side : TheSide) : Type 0 where
  pub at : ℕ
  pub core : TheCore
  pub there : get_elem? cores at ≡ some core
  pub state : TheHistorySide
  pub own : IsOwnSide core state
  pub shown : state ≡ shown_of core state.side.size state.number
  pub number_is : state.number ≡ number
  pub side_is : state.side ≡ side

module _ (rings : List RingEnds) (hands : Holdings TheHistorySide) (settled : AreSettled (sides_of rings) hands)
    (numbered : AreHandedOut (owners_in rings) (numbers_below (length (owners_in rings))) (map numbers_of hands))
    (after : List TwoSides) (out : AreHandedOut (owners_in rings) (both_of after) (shown_hands hands)) where
  owner_at : (owners : List ℕ) (n : ℕ) → n < length owners → (o : ℕ) × (slice_get owners n ≡ Some o)
  owner_at [] n below = absurd (omega (arith, below))
  owner_at (o ∷ owners) zero below = (o, refl)
  owner_at (o ∷ owners) (suc n) below = owner_at owners n (omega (arith, below))

  within : {X : Type 0} (xs : List X) (n : ℕ) (x : X) → slice_get xs n ≡ Some x → n < length xs
  within [] n x at = absurd (none_there x at)
  within (y ∷ xs) zero x at = omega arith
  within (y ∷ xs) (suc n) x at = let below = within xs n x at in omega (arith, below)

  has_side : (n : ℕ) (side : TheSide) → slice_get (both_of after) n ≡ Some side → HasSide settled.cores n side
  has_side n side at =
      let owners = owners_in rings in
      let few = within (both_of after) n side at in
      let many = out.count in
      let below : n < length owners = omega (arith, few, many) in
      let owner = owner_at owners n below in
      let o = owner.0 in
      let place = own_before o n owners in
      let hand = holding_at hands o in
      let one = in_hand (λ (p : TheHistorySide). p.side) owners (both_of after) hands n o side out owner.1 at in
      let here : slice_get (numbers_below (length owners)) n ≡ Some (0 + n) = range_at 0 (length owners) n below in
      let two = in_hand (λ (p : TheHistorySide). p.number) owners (numbers_below (length owners)) hands n o (0 + n) numbered owner.1 here in
      let has = has_core hands settled.cores o place one.one settled.are one.there in
      let same : Some one.one ≡ Some two.one = sym one.there ∙ two.there in
      let p_is : one.one ≡ two.one = cc in
      let start : 0 + n ≡ n = omega arith in
      record {
        at = has.at;
        core = has.core;
        there = has.there;
        state = one.one;
        own = all_at (IsOwnSide has.core) hand place one.one has.is.own one.there;
        shown = all_at (λ p. p ≡ shown_of has.core p.side.size p.number) hand place one.one has.is.sides.each one.there;
        number_is = ap (λ (p : TheHistorySide). p.number) p_is ∙ two.is ∙ start;
        side_is = one.is;
      }

  near_by : (cores : ℕ) → AllByRecursion (IsRingOf cores) rings → (n m : ℕ) (p q : TheSide) → slice_get (both_of after) n ≡ Some p → slice_get (both_of after) m ≡ Some q
      → m ≡ mate n → SidesNear p q
  near_by cores sized n m p q at_n at_m is =
      let one = has_side n p at_n in
      let two = has_side m q at_m in
      let near : SidesNear one.state.side two.state.side =
      rings_are_near (sides_of rings) settled.cores settled.order (both_sized cores rings sized) (both_paired rings) one.at two.at one.core two.core one.there two.there
      one.state two.state one.own two.own one.shown two.shown (two.number_is ∙ is ∙ sym (ap mate one.number_is)) in
      subst (λ (x : TheSide). SidesNear x q) one.side_is (subst (λ (x : TheSide). SidesNear one.state.side x) two.side_is near)

-- ---- two by two

each_from : (after : List TwoSides) → ((n m : ℕ) (p q : TheSide) → slice_get (both_of after) n ≡ Some p → slice_get (both_of after) m ≡ Some q → m ≡ mate n → SidesNear p q)
    → Each IsNear after
each_from [] near = tt
each_from (t ∷ after) near = (
  record { forth = near zero (suc zero) t.one t.two refl refl refl; back = near (suc zero) zero t.two t.one refl refl refl },
  each_from after (λ n m p q at_n at_m is. near (suc (suc n)) (suc (suc m)) p q at_n at_m (ap (λ k. suc (suc k)) is)),
)

pub settled_are_near : SettledAreNear
settled_are_near = λ rings cores hands sized numbered settled after out. each_from after (near_by rings hands settled numbered after out cores sized)
