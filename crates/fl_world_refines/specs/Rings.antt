-- When a ring is what is shown of the machine's: its counts are the machine's, and a fragment stands there for each
-- label, which tells the label's count as a number of 16 bits.
use Rattle.std.specs.Prelude.{ℕ, ◌≡◌, ◌%◌, List, [], ◌∷◌, map}
use Rattle.fl_base.specs.declared.fragment.Frag.{Frag}
use Rattle.fl_base.specs.Control.{told_of}
use Rattle.fl_ring.specs.declared.one_duo.WhichSide.{WhichSide}
use Rattle.fl_ring.specs.declared.one_duo.WhichSide.TheVariants.{One, Two}
use Rattle.fl_ring.specs.Duo.{TheHalf, TheDuo, got}
use Rattle.fl_model.specs.Rings.{RingLabel, Half, Ring, RingSide, first_side, second_side}
use Rattle.fl_model.specs.Standing.{labels_of}
use Rattle.fl_world_refines.specs.Fragments.{Streams, AreOf, MayBeSaid}

-- the machine's first side is side one
abbrev pub which_of : RingSide → WhichSide
which_of first_side = One
which_of second_side = Two

-- the numbers that fragments tell, and those that labels tell
abbrev pub numbers_told : List Frag → List ℕ
numbers_told frags = map (λ (f : Frag). told_of f.control) frags

abbrev pub numbers_due : List RingLabel → List ℕ
numbers_due labels = map (λ (l : RingLabel). l.told % 65536) labels

-- what monitors say there may be said
abbrev pub AllMayBeSaid : List RingLabel → Type 0
AllMayBeSaid [] = Unit {0}
AllMayBeSaid (l ∷ ls) = MayBeSaid l.label × AllMayBeSaid ls

-- one direction, between the side that writes it and the side that reads it
pub record DirectionShows (streams : Streams) (h : Half) (writer reader : TheHalf) : Type 0 where
  pub sent : writer.sent ≡ h.sent
  pub known : writer.known ≡ h.known
  pub told : reader.told ≡ h.told
  pub read : got reader ≡ h.read
  pub frags : AreOf streams (labels_of h.waiting) reader.waiting
  pub tells : numbers_told reader.waiting ≡ numbers_due h.waiting
  pub said : AllMayBeSaid h.waiting

-- both directions, of as many slots; what the first side writes goes from side one to side two
pub record RingShows (streams : Streams) (r : Ring) (d : TheDuo) : Type 0 where
  pub size : d.size ≡ r.size
  pub forth : DirectionShows streams r.by_first d.one d.two
  pub back : DirectionShows streams r.by_second d.two d.one
