-- The two sides of a ring; and where ways lie: each word of a way is of that way alone.
use Rattle.std.proofs.Common.{ℕ, zero, suc, ◌≡◌, ◌≢◌, ◌<◌, ◌≤◌, ◌+◌, ◌*◌, ◌-◌, ◌%◌, ◌⊎◌, inl, inr, List, [], ◌∷◌, ◌++◌, length, take, get_or, ap, subst, ◌∙◌, sym, refl, arith, ltb, lt-ltb, le-ltb}
use Rattle.std.proofs.lemmas.Bool.{cases_lt}
use Rattle.std.proofs.lemmas.Nat.{mod_below}
use Rattle.std.proofs.lemmas.List.{take_more, take_all}
use mathlib.Core.Option.{some, some-injective, some-ne-none}
use lib.ListN.{get_elem?}
use Rattle.fl_ring.specs.Way.{slot}
use Rattle.fl_ring.proofs.Places.{slot_within}
use Rattle.fl_history_rings.specs.declared.board.SideEnd.{SideEnd}
use Rattle.fl_history_rings.specs.Rings.{mate}
use Rattle.fl_history_rings.specs.Rule.{words_of, first_word, putter_of, no_side, slots_of}
use Rattle.fl_history_rings.proofs.Logs.{then_is, else_is, read_there}

-- ---- the other side

pub mate_back : (s : ℕ) → mate (mate s) ≡ s
mate_back zero = refl
mate_back (suc zero) = refl
mate_back (suc (suc s)) = ap (λ (x : ℕ). suc (suc x)) (mate_back s)

pub mate_apart : (s : ℕ) → mate s ≢ s
mate_apart zero = λ e. let x : 1 ≡ 0 = e in omega (arith, x)
mate_apart (suc zero) = λ e. let x : 0 ≡ 1 = e in omega (arith, x)
mate_apart (suc (suc s)) = λ e. let x : suc (suc (mate s)) ≡ suc (suc s) = e in mate_apart s (omega (arith, x))

-- by its number
pub mate_even : (s : ℕ) → s % 2 ≡ 0 → mate s ≡ s + 1
mate_even zero e = refl
mate_even (suc zero) e = absurd (let x : 1 ≡ 0 = e in omega (arith, x))
mate_even (suc (suc s)) e = let rest = mate_even s (omega (arith, e)) in omega (arith, rest)

pub mate_odd : (s : ℕ) → s % 2 ≢ 0 → s ≡ mate s + 1
mate_odd zero ne = absurd (ne refl)
mate_odd (suc zero) ne = refl
mate_odd (suc (suc s)) ne = let rest = mate_odd s (λ e. ne (omega (arith, e))) in omega (arith, rest)

-- two sides whose other sides are one are one
pub mates_same : (j s : ℕ) → mate j ≡ mate s → j ≡ s
mates_same j s e = sym (mate_back j) ∙ (ap mate e ∙ mate_back s)

-- ---- words

pub putter_here : (ends : List SideEnd) (k : ℕ) (both : SideEnd) (y : ℕ) → get_elem? ends k ≡ some both → y < 8 * both.slots → putter_of ends (first_word ends k + y) ≡ k
putter_here [] k both y at low = absurd (some-ne-none both (sym at))
putter_here (e ∷ es) zero both y at low =
    let wide : ℕ = 8 * e.slots in
    let slots : e.slots ≡ both.slots = ap (λ (x : SideEnd). x.slots) (some-injective e both at) in
    let inside : 0 + y < wide = omega (arith, slots) in
    then_is (ltb (0 + y) wide) zero (suc (putter_of es (0 + y - wide))) (lt-ltb (0 + y) wide inside)
putter_here (e ∷ es) (suc k) both y at low =
    let wide : ℕ = 8 * e.slots in
    let word : ℕ = wide + first_word es k + y in
    let behind : wide ≤ word = omega arith in
    let rest : word - wide ≡ first_word es k + y = omega arith in
    else_is (ltb word wide) zero (suc (putter_of es (word - wide))) (le-ltb word wide behind)
    ∙ ap (λ (x : ℕ). suc (putter_of es x)) rest ∙ ap suc (putter_here es k both y at low)

-- a way lies within the table, and two ways lie apart
pub way_within : (ends : List SideEnd) (k : ℕ) (both : SideEnd) → get_elem? ends k ≡ some both → first_word ends k + 8 * both.slots ≤ words_of ends
way_within [] k both at = absurd (some-ne-none both (sym at))
way_within (e ∷ es) zero both at =
    let slots : e.slots ≡ both.slots = ap (λ (x : SideEnd). x.slots) (some-injective e both at) in
    omega (arith, slots)
way_within (e ∷ es) (suc k) both at = let rest = way_within es k both at in omega (arith, rest)

ways_apart : (ends : List SideEnd) (k j : ℕ) (a b : SideEnd) → get_elem? ends k ≡ some a → get_elem? ends j ≡ some b → k < j → first_word ends k + 8 * a.slots ≤ first_word ends j
ways_apart [] k j a b at there lt = absurd (some-ne-none a (sym at))
ways_apart (e ∷ es) zero zero a b at there lt = absurd (omega arith)
ways_apart (e ∷ es) zero (suc j) a b at there lt =
    let slots : e.slots ≡ a.slots = ap (λ (x : SideEnd). x.slots) (some-injective e a at) in
    omega (arith, slots)
ways_apart (e ∷ es) (suc k) zero a b at there lt = absurd (omega arith)
ways_apart (e ∷ es) (suc k) (suc j) a b at there lt = let rest = ways_apart es k j a b at there (omega arith) in omega (arith, rest)

either_side : (ends : List SideEnd) (k j : ℕ) (a b : SideEnd) → get_elem? ends k ≡ some a → get_elem? ends j ≡ some b → k ≢ j → (k < j) ⊎ (j ≤ k)
    → (first_word ends k + 8 * a.slots ≤ first_word ends j) ⊎ (first_word ends j + 8 * b.slots ≤ first_word ends k)
either_side ends k j a b at there ne (inl lt) = inl (ways_apart ends k j a b at there lt)
either_side ends k j a b at there ne (inr le) = inr (ways_apart ends j k b a there at (omega (arith, le, ne)))

-- a word of another way is no word of this one
outside_by : (f g x y i : ℕ) → (f + 8 * x ≤ g) ⊎ (g + 8 * y ≤ f) → g ≤ i → i < g + 8 * y → (i < f) ⊎ (f + 8 * x ≤ i)
outside_by f g x y i (inl before) from below = inr (omega arith)
outside_by f g x y i (inr behind) from below = inl (omega arith)

-- the two ways of a ring
pub ring_apart : (ends : List SideEnd) (s : ℕ) (a b : SideEnd) → get_elem? ends s ≡ some a → get_elem? ends (mate s) ≡ some b → b.slots ≡ a.slots
    → (first_word ends s + 8 * a.slots ≤ first_word ends (mate s)) ⊎ (first_word ends (mate s) + 8 * a.slots ≤ first_word ends s)
ring_apart ends s a b at there same =
    subst (λ (n : ℕ). (first_word ends s + 8 * a.slots ≤ first_word ends (mate s)) ⊎ (first_word ends (mate s) + 8 * n ≤ first_word ends s)) same
    (either_side ends s (mate s) a b at there (λ e. mate_apart s (sym e)) (cases_lt s (mate s)))

pub other_way : (ends : List SideEnd) (k j : ℕ) (a b : SideEnd) → get_elem? ends k ≡ some a → get_elem? ends j ≡ some b → k ≢ j
    → (i : ℕ) → first_word ends j ≤ i → i < first_word ends j + 8 * b.slots → (i < first_word ends k) ⊎ (first_word ends k + 8 * a.slots ≤ i)
other_way ends k j a b at there ne i from below =
    outside_by (first_word ends k) (first_word ends j) a.slots b.slots i (either_side ends k j a b at there ne (cases_lt k j)) from below

pub slots_here : (ends : List SideEnd) (k : ℕ) (both : SideEnd) → get_elem? ends k ≡ some both → slots_of ends k ≡ both.slots
slots_here ends k both at = ap (λ (x : SideEnd). x.slots) (read_there ends k both no_side at)

-- a word of a slot, and the word behind the slots
module _ (ends : List SideEnd) (k : ℕ) (both : SideEnd) (at : get_elem? ends k ≡ some both) (word : ℕ) where
  pub slot_putter : (i j : ℕ) → 0 < both.slots → j < 8 → word ≡ slot (first_word ends k) both.slots i + j → putter_of ends word ≡ k
  slot_putter i j any small is =
      let below : i % both.slots < both.slots = mod_below i both.slots any in
      let here : word ≡ first_word ends k + (8 * (i % both.slots) + j) = omega (arith, is) in
      let inside : 8 * (i % both.slots) + j < 8 * both.slots = omega (arith, below, small) in
      ap (λ (x : ℕ). putter_of ends x) here ∙ putter_here ends k both (8 * (i % both.slots) + j) at inside

-- which word of its slot it is
pub slot_index : (b n i j word : ℕ) → j < 8 → word ≡ slot b n i + j → (word - b) % 8 ≡ j
slot_index b n i j word small is =
    let p : ℕ = i % n in
    let here : word ≡ b + 8 * p + j = is in
    let rest : word - b ≡ 8 * p + j = omega (arith, here) in
    ap (λ (x : ℕ). x % 8) rest ∙ eights p
  where
    eights : (p : ℕ) → (8 * p + j) % 8 ≡ j
    eights p = omega (arith, small)

-- words of slots lie within the way, and those outside it are others
pub slot_inside : (b n i j word : ℕ) → 0 < n → j < 8 → word ≡ slot b n i + j → (b ≤ word) × (word < b + 8 * n)
slot_inside b n i j word any small is = let inside = slot_within b n i any in (omega (arith, is), omega (arith, is, inside))

-- ---- how many words ways take

words_more : (xs : List SideEnd) (e : SideEnd) → words_of (xs ++ e ∷ []) ≡ words_of xs + 8 * e.slots
words_more [] e = omega arith
words_more (x ∷ xs) e = let rest = words_more xs e in omega (arith, rest)

pub one_more_way : (ends : List SideEnd) (k : ℕ) (both d : SideEnd) (count more : ℕ) → k < length ends → both ≡ get_or ends k d → count ≡ words_of (take k ends) + 1 → more ≡ count + 8 * both.slots → more ≡ words_of (take (k + 1) ends) + 1
one_more_way ends k both d count more low here so_far is =
    let next : words_of (take (k + 1) ends) ≡ words_of (take k ends) + 8 * (get_or ends k d).slots = ap words_of (take_more ends k d low) ∙ words_more (take k ends) (get_or ends k d) in
    let slots : both.slots ≡ (get_or ends k d).slots = ap (λ (x : SideEnd). x.slots) here in
    omega (arith, next, slots, so_far, is)

pub all_ways : (ends : List SideEnd) (k count : ℕ) → k ≡ length ends → count ≡ words_of (take k ends) + 1 → count ≡ words_of ends + 1
all_ways ends k count all is = is ∙ ap (λ (xs : List SideEnd). words_of xs + 1) (take_all k ends (omega (arith, all)))

-- the first word of a way is behind the words of the ways before it
pub first_behind : (ends : List SideEnd) (k : ℕ) → k < length ends → words_of (take k ends) ≡ first_word ends k
first_behind [] k low = absurd (omega arith)
first_behind (e ∷ es) zero low = refl
first_behind (e ∷ es) (suc k) low = let rest = first_behind es k (omega arith) in omega (arith, rest)

words_within : (ends : List SideEnd) (k : ℕ) → words_of (take k ends) ≤ words_of ends
words_within [] zero = omega arith
words_within [] (suc k) = omega arith
words_within (e ∷ es) zero = omega arith
words_within (e ∷ es) (suc k) = let rest = words_within es k in omega (arith, rest)

-- with one way more
pub way_more : (ends : List SideEnd) (k : ℕ) (both d : SideEnd) (base : ℕ) → k < length ends → both ≡ get_or ends k d → base ≡ words_of (take k ends)
    → (base + 8 * both.slots ≡ words_of (take (k + 1) ends)) × (base + 8 * both.slots ≤ words_of ends)
way_more ends k both d base low here so_far =
    let next : words_of (take (k + 1) ends) ≡ words_of (take k ends) + 8 * (get_or ends k d).slots = ap words_of (take_more ends k d low) ∙ words_more (take k ends) (get_or ends k d) in
    let slots : both.slots ≡ (get_or ends k d).slots = ap (λ (x : SideEnd). x.slots) here in
    let within = words_within ends (k + 1) in
    (omega (arith, next, slots, so_far), omega (arith, next, slots, so_far, within))
