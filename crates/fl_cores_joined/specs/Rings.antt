-- A ring as its two sides make it, while each is in the hands of a core of its own; and when a step of one
-- side finds what stands there. Law.
use Rattle.std.specs.Prelude.{◌≡◌, ◌⊎◌, ◌/◌, ◌^◌, ◌<◌, ◌≤◌, false, List, [], ◌∷◌, ◌++◌, length, drop, Some, None}
use Rattle.fl_base.specs.declared.fragment.Frag.{Frag}
use Rattle.fl_base.specs.Control.{told_of, is_ack_only}
use Rattle.fl_base.specs.Prefix.{IsPrefix}
use Rattle.fl_link.specs.Looks.{Look, placed, no_room, saw, found, missed, told}
use Rattle.fl_link.specs.Queue.{look_at}
use Rattle.fl_ring.specs.Counts.{count_from}
use Rattle.fl_ring.specs.declared.one_duo.WhichSide.{WhichSide}
use Rattle.fl_ring.specs.declared.one_duo.WhichSide.TheVariants.{One, Two}
use Rattle.fl_ring.specs.Duo.{TheHalf, TheDuo, DuoPuts, DuoTakes, acknowledgement}
use Rattle.fl_ring.specs.SharedSides.{TheSide, SharedPuts, SharedTakes, SideMayCome, MayStand, KnowsSent}
use Rattle.fl_ring.specs.SharedSides.{free_of, unacknowledged_of, side_written, side_seen, side_taken, side_missed}
use Rattle.fl_ring.specs.SharedSides.{side_counted}

-- ---- the ring of two sides

-- a side, and the one across from it, as that is at the same moment
pub record FacingSide : Type 0 where
  pub side : TheSide
  pub across : TheSide

-- what stands in the ring for a side: what the other put, and it hasn't taken
abbrev pub standing_for : TheSide → TheSide → List Frag
standing_for side across = drop (length side.got) across.sent

-- a side as the ring has it
abbrev pub half_of : TheSide → TheSide → TheHalf
half_of side across = record {
  sent = length side.sent;
  known = side.known;
  told = side.told;
  read = drop side.told side.got;
  waiting = standing_for side across;
}

abbrev pub ring_of : TheSide → TheSide → TheDuo
ring_of one two = record { size = one.size; one = half_of one two; two = half_of two one }

-- the ring of a side that is known to be this one of the two
abbrev pub ring_by : WhichSide → FacingSide → TheDuo
ring_by One x = ring_of x.side x.across
ring_by Two x = ring_of x.across x.side

-- what a side took is the first of what the other put, and it told no more than that
pub record TookFrom (side across : TheSide) : Type 0 where
  pub took : IsPrefix side.got across.sent
  pub told : side.told ≤ length side.got

-- so it is of both sides of one ring
pub record AreFacing (x : FacingSide) : Type 0 where
  pub ring : x.across.ring ≡ x.side.ring
  pub size : x.across.size ≡ x.side.size
  pub here : TookFrom x.side x.across
  pub there : TookFrom x.across x.side

-- ---- steps that find what stands there

-- a load found the first of these fragments: the side knows what that tells, and saw or took no other
pub record FindsFirst (stood : List Frag) (p q : TheSide) : Type 0 where
  pub first : Frag
  pub rest : List Frag
  pub stood_is : stood ≡ first ∷ rest
  pub known : q.known ≡ count_from p.known (told_of first.control)
  pub saw : (frag : Frag) → q.peeked ≡ Some frag → frag ≡ first
  pub took : (q.got ≡ p.got) ⊎ (q.got ≡ p.got ++ first ∷ [])

-- by a step from p to q: where a load missed, nothing stood there, and where one didn't, it found the first
pub record FindsWhatStood (stood : List Frag) (p q : TheSide) : Type 0 where
  pub nothing : p.misses < q.misses → stood ≡ []
  pub something : q.misses ≡ p.misses → p.loads < q.loads → FindsFirst stood p q

-- a step of a side that finds so; the other side stays
abbrev pub Truly : (TheSide → Look → TheSide → Type 0) → FacingSide → Look → FacingSide → Type 0
Truly step x look y =
    step x.side look y.side × FindsWhatStood (standing_for x.side x.across) x.side y.side
    × (y.across ≡ x.across)

-- ---- law: it is a step of the ring of the two

abbrev pub StepsOfRing : (TheSide → Look → TheSide → Type 0) → (WhichSide → TheDuo → Look → TheDuo
    → Type 0) → Type 0
StepsOfRing step RingSteps = (which : WhichSide) (x y : FacingSide) (look : Look) → AreFacing x
    → Truly step x look y
    → RingSteps which (ring_by which x) look (ring_by which y) × AreFacing y

-- each put, look, take and tell over shared words that finds what stands there is the ring's
pub record TrueStepsAreTheRings : Type 0 where
  pub puts : StepsOfRing SharedPuts DuoPuts
  pub takes : StepsOfRing SharedTakes DuoTakes

-- ---- law: there are such steps

-- a side that has loaded the first fragment's control word, and knows what that tells
abbrev pub told_by : TheSide → Frag → TheSide
told_by side first = side_counted side (count_from side.known (told_of first.control))

-- A side that knows of room puts; where it knows of none it looks first, and puts, or finds no room; what
-- stands first is seen, and taken, unless it would tell more than was put; where nothing stands, a look
-- misses; and what was taken is told.
pub record TrueStepsHappen : Type 0 where
  pub puts : (x : FacingSide) (frag : Frag) → is_ack_only frag ≡ false → length x.side.sent < 2 ^ 62
      → 2 ≤ free_of x.side → Truly SharedPuts x (placed frag) (record x { side = side_written x.side frag })
  pub looks_and_puts : (x : FacingSide) (first frag : Frag) (rest : List Frag) → is_ack_only frag ≡ false
      → length x.side.sent < 2 ^ 62 → free_of x.side < 2 → standing_for x.side x.across ≡ first ∷ rest
      → SideMayCome x.side first → MayStand x.side first.control → KnowsSent (told_by x.side first)
      → 2 ≤ free_of (told_by x.side first)
      → Truly SharedPuts x (placed frag) (record x { side = side_written (told_by x.side first) frag })
  pub finds_no_room : (x : FacingSide) → length x.side.sent < 2 ^ 62 → free_of x.side < 2
      → standing_for x.side x.across ≡ [] → x.side.peeked ≡ None
      → Truly SharedPuts x no_room (record x { side = side_missed x.side })
  pub sees : (x : FacingSide) (first frag : Frag) (rest : List Frag)
      → standing_for x.side x.across ≡ first ∷ rest → look_at first ≡ saw frag
      → SideMayCome x.side first → KnowsSent (side_seen x.side first)
      → Truly SharedTakes x (saw frag) (record x { side = side_seen x.side first })
  pub takes : (x : FacingSide) (first frag : Frag) (rest : List Frag)
      → standing_for x.side x.across ≡ first ∷ rest → look_at first ≡ saw frag
      → SideMayCome x.side first → KnowsSent (side_taken x.side first)
      → Truly SharedTakes x (found frag) (record x { side = side_taken x.side first })
  pub misses : (x : FacingSide) → standing_for x.side x.across ≡ [] → x.side.peeked ≡ None
      → Truly SharedTakes x missed (record x { side = side_missed x.side })
  pub tells : (x : FacingSide) → x.side.size / 2 ≤ unacknowledged_of x.side → length x.side.sent < 2 ^ 62
      → 1 ≤ free_of x.side
      → Truly SharedTakes x told (record x { side = side_written x.side acknowledgement })
