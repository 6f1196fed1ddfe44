-- The sides of rings: both of each ring are there, with as many slots.
use Rattle.std.proofs.Common.{ℕ, zero, suc, ◌≡◌, ◌<◌, ◌≤◌, ◌+◌, List, [], ◌∷◌, ◌++◌, length, take, get_or, ap, ◌∙◌, sym, refl, arith, append_assoc}
use Rattle.std.proofs.lemmas.List.{take_more, take_all}
use mathlib.Core.Option.{some, some-injective, some-ne-none}
use lib.ListN.{get_elem?}
use Rattle.std.specs.List.{AllByRecursion}
use Rattle.fl_ring.specs.Duo.{MayHaveSlots}
use Rattle.fl_history_rings.specs.declared.board.RingEnds.{RingEnds}
use Rattle.fl_history_rings.specs.declared.board.SideEnd.{SideEnd}
use Rattle.fl_history_rings.specs.Rings.{mate, side_end, sides_of}
use Rattle.fl_history_rings.specs.Rule.{ArePaired}
use Rattle.fl_history_rings.specs.Seats.{HaveSlots}
use Rattle.fl_history_rings.specs.Cores.{IsRingOf}

pub both_paired : (rings : List RingEnds) → ArePaired (sides_of rings)
both_paired [] s end at = absurd (some-ne-none end (sym at))
both_paired (r ∷ rs) zero end at = (side_end r.slots r.second, refl, ap (λ (x : SideEnd). x.slots) (some-injective (side_end r.slots r.first) end at))
both_paired (r ∷ rs) (suc zero) end at = (side_end r.slots r.first, refl, ap (λ (x : SideEnd). x.slots) (some-injective (side_end r.slots r.second) end at))
both_paired (r ∷ rs) (suc (suc s)) end at = both_paired rs s end at

sized : (slots core : ℕ) (end : SideEnd) → side_end slots core ≡ end → MayHaveSlots slots → (0 < end.slots) × (end.slots ≤ 1024)
sized slots core end is (more, most, _) = let same : slots ≡ end.slots = ap (λ (x : SideEnd). x.slots) is in (omega (arith, same, more), omega (arith, same, most))

pub both_sized : (cores : ℕ) (rings : List RingEnds) → AllByRecursion (IsRingOf cores) rings → HaveSlots (sides_of rings)
both_sized cores [] h s end at = absurd (some-ne-none end (sym at))
both_sized cores (r ∷ rs) h zero end at = sized r.slots r.first end (some-injective (side_end r.slots r.first) end at) h.0.slots
both_sized cores (r ∷ rs) h (suc zero) end at = sized r.slots r.second end (some-injective (side_end r.slots r.second) end at) h.0.slots
both_sized cores (r ∷ rs) h (suc (suc s)) end at = both_sized cores rs h.1 s end at

sides_more : (xs : List RingEnds) (r : RingEnds) → sides_of (xs ++ r ∷ []) ≡ sides_of xs ++ sides_of (r ∷ [])
sides_more [] r = refl
sides_more (x ∷ xs) r = ap (λ (l : List SideEnd). side_end x.slots x.first ∷ side_end x.slots x.second ∷ l) (sides_more xs r)

-- what is read where no ring is
abbrev pub no_ring : RingEnds
no_ring = record { slots = 0; first = 0; second = 0 }

-- with one ring more, and with all
pub one_more_ring : (rings : List RingEnds) (k : ℕ) (ring d : RingEnds) (made more : List SideEnd) → k < length rings → ring ≡ get_or rings k d → made ≡ sides_of (take k rings) → more ≡ made ++ sides_of (ring ∷ []) → more ≡ sides_of (take (k + 1) rings)
one_more_ring rings k ring d made more low here so_far is =
    is ∙ ap (λ (l : List SideEnd). l ++ sides_of (ring ∷ [])) so_far ∙ ap (λ (r : RingEnds). sides_of (take k rings) ++ sides_of (r ∷ [])) here
    ∙ sym (sides_more (take k rings) (get_or rings k d)) ∙ ap sides_of (sym (take_more rings k d low))

pub all_rings : (rings : List RingEnds) (k : ℕ) (made : List SideEnd) → k ≡ length rings → made ≡ sides_of (take k rings) → made ≡ sides_of rings
all_rings rings k made all is = is ∙ ap sides_of (take_all k rings (omega (arith, all)))
