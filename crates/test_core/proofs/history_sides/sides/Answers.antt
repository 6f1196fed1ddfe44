use Rattle.std.proofs.Common.{ℕ, ◌≡◌, ◌∙◌, ap, arith, List, [], ◌∷◌, refl, subst, sym}
use Rattle.std.specs.List.{AllByRecursion}
use Rattle.fl_history_rings.specs.declared.board.RingEnds.{RingEnds}
use Rattle.fl_history_rings.specs.Rings.{side_end, sides_of}
use Rattle.fl_history_rings.specs.Cores.{TheCore, TheCoresLeft, IsRingOf, Owns, all_left, next_core, without_next}
use Rattle.test_core.proofs.history_sides.sides.Goals as goal

-- both rings are between cores 0 and 1
abbrev ring : RingEnds
ring = record { slots = 4; first = 0; second = 1 }

abbrev Has : List ℕ → TheCore → Type 0
Has numbers c = AllByRecursion (λ n. Owns c.sides n c.number) numbers

is_ring : IsRingOf 3 ring
unfolding lib.Count.ones
is_ring = record { slots = (omega arith, omega arith, refl); first = omega arith; second = omega arith }

first_has : (o : TheCoresLeft) (c : TheCore) → o ≡ all_left o.table (sides_of (ring ∷ ring ∷ [])) 3 → c ≡ next_core o → Has (2 ∷ 0 ∷ []) c
first_has o c left is = subst (λ (x : TheCore). Has (2 ∷ 0 ∷ []) x) (sym (is ∙ ap next_core left)) ((side_end 4 0, refl, refl), ((side_end 4 0, refl, refl), tt))

second_has : (o o2 : TheCoresLeft) (c : TheCore) → o ≡ all_left o.table (sides_of (ring ∷ ring ∷ [])) 3 → o2 ≡ without_next o → c ≡ next_core o2 → Has (1 ∷ 3 ∷ []) c
second_has o o2 c left rest is =
    subst (λ (x : TheCore). Has (1 ∷ 3 ∷ []) x) (sym (is ∙ ap next_core (rest ∙ ap without_next left))) ((side_end 4 1, refl, refl), ((side_end 4 1, refl, refl), tt))

pub rings-requires : goal.rings-requires
rings-requires c = record { rings = (is_ring, (is_ring, tt)) }

pub of-requires-clause-mine : goal.of-requires-clause-mine
of-requires-clause-mine c = first_has c.in_ok-left.left c.in_ok-next_core_of.field-0 c.in_ok-left.ensures.left c.in_ok-next_core_of.ensures.core.0

pub of-requires-2-clause-mine : goal.of-requires-2-clause-mine
of-requires-2-clause-mine c =
    second_has c.in_ok-left.left _ c.in_ok-next_core_of-2.field-0 c.in_ok-left.ensures.left c.in_ok-next_core_of.ensures.core.1 c.in_ok-next_core_of-2.ensures.core.0
