-- What a look at the other side's first fragment finds.
use Rattle.std.proofs.Common.{ℕ, ◌≡◌, ◌≢◌, ◌<◌, ◌+◌, ◌*◌, ◌%◌, ◌-◌, List, [], ◌∷◌, get_or, ap, ◌∙◌, Option, MatchOption}
use Rattle.fl_base.specs.declared.fragment.Frag.{Frag}
use Rattle.fl_base.specs.Control.{epoch_of}
use Rattle.fl_link.specs.Cursor.{epoch_at}
use Rattle.fl_ring.specs.Way.{frag_at, standing}
use Rattle.fl_ring.specs.Halves.{InStep, half_of}
use Rattle.fl_ring.specs.declared.halves.DuoHalf.{DuoHalf}
use Rattle.fl_ring.proofs.RingSteps.{first_of, slot_at}

-- the look at side a's next slot, by the place and the epoch that its cursor gives
pub look_finds : (n : ℕ) (ws : List ℕ) (a b : DuoHalf) (place due : ℕ) (r : Option Frag) → InStep n ws a b → place ≡ a.take.index % a.take.size → due ≡ epoch_at a.take.size a.take.index
    → MatchOption r (epoch_of (get_or ws (a.other + 8 * place + 7) 0) ≢ due) (λ f. (f ≡ frag_at ws (a.other + 8 * place)) × (epoch_of (get_or ws (a.other + 8 * place + 7) 0) ≡ due))
    → MatchOption r (((half_of n ws a b).waiting ≡ []) × (a.take.index ≡ b.put.index))
    (λ f. ((half_of n ws a b).waiting ≡ f ∷ standing b.base n ws (a.take.index + 1) (b.put.index - (a.take.index + 1))) × (a.take.index < b.put.index))
look_finds n ws a b place due r s at turn found =
    first_of b.base n ws a.told b.put.index a.take.index (a.other + 8 * place) due r s.back.marked s.back.told_taken s.back.taken_sent
    (ap (λ (x : ℕ). x + 8 * place) s.back.from ∙ slot_at b.base place a.take.index a.take.size n at s.back.take_size)
    (turn ∙ ap (λ (x : ℕ). epoch_at x a.take.index) s.back.take_size) found
