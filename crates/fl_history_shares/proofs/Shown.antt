-- A core's sides as it begins, as sides of rings by themselves.
use Rattle.std.proofs.Common.{◌≡◌, refl, sym, ap, ◌∙◌, subst, ℕ, zero, suc, ◌+◌, ◌<◌, List, [], ◌∷◌, ◌++◌, length, map, take, get_or, slice_get, Some, arith}
use Rattle.std.specs.List.{range_with_len}
use Rattle.std.proofs.lemmas.List.{take_more, length-map, length-take-le}
use Rattle.atomic_table.specs.Seated.{TableId}
use Rattle.fl_ring.specs.SharedSides.{TheSide}
use Rattle.fl_history_rings.specs.declared.board.RingEnds.{RingEnds}
use Rattle.fl_history_rings.specs.declared.board.SideEnd.{SideEnd}
use Rattle.fl_history_rings.specs.Rings.{sides_of, side_end}
use Rattle.fl_history_rings.specs.Rule.{slots_of}
use Rattle.fl_history_sides.specs.States.{TheHistorySide, side_after, first_shown, numbers_of}
use Rattle.fl_cores_shares.specs.Shares.{Holdings, holding_at, own_things, AreHandedOut, AreAt, holdings_in, Holds}
use Rattle.fl_cores_shares.specs.Settled.{sides_of as both_of}
use Rattle.fl_history_shares.specs.declared.dealing.DealtSides.{DealtSides}
use Rattle.fl_history_shares.specs.Dealt.{owners_in, numbers_below, new_core, first_hands, hands_in, Deals, new_rings, shown_hands}
use Rattle.fl_history_shares.proofs.Own.{map_at, map_of, own_map, hand_map, range_length}

-- ---- one core more

hands_more : (table : TableId) (ends : List SideEnd) (core : ℕ) (holdings : Holdings ℕ) (numbers : List ℕ)
    → first_hands table ends core (holdings ++ numbers ∷ [])
    ≡ first_hands table ends core holdings ++ map (first_shown (new_core table ends (core + length holdings))) numbers ∷ []
hands_more table ends core [] numbers =
    let here : core ≡ core + 0 = omega arith in ap (λ (c : ℕ). map (first_shown (new_core table ends c)) numbers ∷ []) here
hands_more table ends core (own ∷ holdings) numbers =
    let next : suc core + length holdings ≡ core + suc (length holdings) = omega arith in
    ap (λ (hands : Holdings TheHistorySide). map (first_shown (new_core table ends core)) own ∷ hands)
    (hands_more table ends (suc core) holdings numbers
    ∙ ap (λ (c : ℕ). first_hands table ends (suc core) holdings ++ map (first_shown (new_core table ends c)) numbers ∷ []) next)

pub first_length : (table : TableId) (ends : List SideEnd) (core : ℕ) (holdings : Holdings ℕ) → length (first_hands table ends core holdings) ≡ length holdings
first_length table ends core [] = refl
first_length table ends core (numbers ∷ holdings) = ap suc (first_length table ends (suc core) holdings)

pub one_hand_more : (table : TableId) (ends : List SideEnd) (all : Holdings ℕ) (k : ℕ) (numbers : List ℕ) (hands more : Holdings TheHistorySide) → k < length all
    → numbers ≡ get_or all k [] → hands ≡ first_hands table ends 0 (take k all) → more ≡ hands ++ map (first_shown (new_core table ends k)) numbers ∷ []
    → more ≡ first_hands table ends 0 (take (k + 1) all)
one_hand_more table ends all k numbers hands more below is so_far added =
    let many : length (take k all) ≡ k = length-take-le k all (omega (arith, below)) in
    let here : k ≡ 0 + length (take k all) = omega (arith, many) in
    let own : ℕ → List ℕ → List TheHistorySide = λ c ns. map (first_shown (new_core table ends c)) ns in
    added ∙ ap (λ (hs : Holdings TheHistorySide). hs ++ own k numbers ∷ []) so_far
    ∙ ap (λ (c : ℕ). first_hands table ends 0 (take k all) ++ own c numbers ∷ []) here
    ∙ sym (hands_more table ends 0 (take k all) numbers)
    ∙ ap (λ (ns : List ℕ). first_hands table ends 0 (take k all ++ ns ∷ [])) is
    ∙ ap (first_hands table ends 0) (sym (take_more all k [] below))

-- ---- numbers

pub first_numbers : (table : TableId) (ends : List SideEnd) (core : ℕ) (holdings : Holdings ℕ) → map numbers_of (first_hands table ends core holdings) ≡ holdings
first_numbers table ends core [] = refl
first_numbers table ends core (numbers ∷ holdings) =
    ap (λ (own : List ℕ). own ∷ map numbers_of (first_hands table ends (suc core) holdings)) (same numbers) ∙ ap (λ (hs : Holdings ℕ). numbers ∷ hs) (first_numbers table ends (suc core) holdings)
  where
    same : (ns : List ℕ) → numbers_of (map (first_shown (new_core table ends core)) ns) ≡ ns
    same [] = refl
    same (n ∷ ns) = ap (λ (xs : List ℕ). n ∷ xs) (same ns)

-- ---- sides of rings by themselves

abbrev new_side : TableId → List SideEnd → ℕ → TheSide
new_side table ends s = side_after table (slots_of ends s) s []

first_sides : (table : TableId) (ends : List SideEnd) (core : ℕ) (holdings : Holdings ℕ)
    → shown_hands (first_hands table ends core holdings) ≡ map (λ hand. map (new_side table ends) hand) holdings
first_sides table ends core [] = refl
first_sides table ends core (numbers ∷ holdings) =
    ap (λ (own : List TheSide). own ∷ shown_hands (first_hands table ends (suc core) holdings)) (same numbers)
    ∙ ap (λ (hs : Holdings TheSide). map (new_side table ends) numbers ∷ hs) (first_sides table ends (suc core) holdings)
  where
    same : (ns : List ℕ) → map (λ (p : TheHistorySide). p.side) (map (first_shown (new_core table ends core)) ns) ≡ map (new_side table ends) ns
    same [] = refl
    same (n ∷ ns) = ap (λ (xs : List TheSide). new_side table ends n ∷ xs) (same ns)

-- numbers from two on
abbrev plus_two : ℕ → ℕ
plus_two n = suc (suc n)

two_on : (first count : ℕ) → range_with_len (suc (suc first)) count ≡ map plus_two (range_with_len first count)
two_on first zero = refl
two_on first (suc count) =
    let next : suc (suc first) + 1 ≡ suc (suc (first + 1)) = omega arith in
    ap (λ (xs : List ℕ). suc (suc first) ∷ xs) (ap (λ (n : ℕ). range_with_len n count) next ∙ two_on (first + 1) count)

map_two : {A B C : Type 0} (g : B → C) (f : A → B) (xs : List A) → map g (map f xs) ≡ map (λ x. g (f x)) xs
map_two g f [] = refl
map_two g f (x ∷ xs) = ap (λ l. g (f x) ∷ l) (map_two g f xs)

pub new_sides : (table : TableId) (rings : List RingEnds) → map (new_side table (sides_of rings)) (numbers_below (length (owners_in rings))) ≡ both_of (new_rings table rings)
new_sides table [] = refl
new_sides table (r ∷ rings) =
    let count = length (owners_in rings) in
    ap (λ (xs : List TheSide). new_side table (sides_of (r ∷ rings)) 0 ∷ new_side table (sides_of (r ∷ rings)) 1 ∷ xs)
    (ap (map (new_side table (sides_of (r ∷ rings)))) (two_on 0 count) ∙ map_two (new_side table (sides_of (r ∷ rings))) plus_two (numbers_below count) ∙ new_sides table rings)

-- ---- what is told of sides' numbers is told of the sides

out_map : {T U : Type 0} (f : T → U) (owners : List ℕ) (things : List T) (holdings : Holdings T) → AreHandedOut owners things holdings
    → AreHandedOut owners (map f things) (map (λ hand. map f hand) holdings)
out_map f owners things holdings out = record {
  count = length-map things f ∙ out.count;
  each = λ core. hand_map f holdings core ∙ ap (map f) (out.each core) ∙ sym (own_map f core owners things);
}

at_map : {T U : Type 0} (f : T → U) (owners : List ℕ) (things : List T) (holdings : Holdings T) (places : List ℕ) → AreAt owners things holdings places
    → AreAt owners (map f things) (map (λ hand. map f hand) holdings) places
at_map f owners things holdings places at number owner thing owner_is thing_is =
    let one = map_of f things number thing thing_is in
    let it = at number owner one.one owner_is one.there in
    record {
      place = it.place;
      place_is = it.place_is;
      stands = ap (λ xs. slice_get xs it.place) (hand_map f holdings owner) ∙ map_at f (holding_at holdings owner) it.place one.one it.stands ∙ ap (λ x. Some x) one.is;
    }

-- what is dealt, as sides of rings by themselves
pub record AreOut (owners places : List ℕ) (sides : List TheSide) (hands : Holdings TheSide) : Type 0 where
  pub handed_out : AreHandedOut owners sides hands
  pub at : AreAt owners sides hands places

pub dealt_shown : (rings : List RingEnds) (cores : ℕ) (d : DealtSides) (deals : Deals rings cores d)
    → AreOut d.numbers.owners.items d.numbers.places.items (both_of (new_rings deals.table rings)) (shown_hands (hands_in d.sides.items))
dealt_shown rings cores d deals =
    let owners = d.numbers.owners.items in
    let places = d.numbers.places.items in
    let f = new_side deals.table (sides_of rings) in
    let numbers = numbers_below (length (owners_in rings)) in
    let holdings = holdings_in d.numbers in
    let hands : shown_hands (hands_in d.sides.items) ≡ map (λ hand. map f hand) holdings =
    ap shown_hands deals.hands ∙ first_sides deals.table (sides_of rings) 0 holdings in
    let out : AreOut owners places (map f numbers) (map (λ hand. map f hand) holdings) = record {
      handed_out = out_map f owners numbers holdings deals.holds.handed_out;
      at = at_map f owners numbers holdings places deals.holds.places;
    } in
    subst (λ (hs : Holdings TheSide). AreOut owners places (both_of (new_rings deals.table rings)) hs) (sym hands)
    (subst (λ (ss : List TheSide). AreOut owners places ss (map (λ hand. map f hand) holdings)) (new_sides deals.table rings) out)
