-- A ring as one side of it knows it, in the machine's words. Of what it writes a side knows how many fragments it put, which, and of how many
-- it was told that they were read; of what it reads, how many it took, and of how many it told. What the other side knows isn't in it: what stands
-- first is found by a look alone.
use Rattle.std.specs.Prelude.{ℕ, ◌≡◌, ◌⊎◌, true, false, List, [], ◌∷◌, ◌++◌, length, map, Option, Some, None}
use Rattle.fl_base.specs.declared.fragment.Frag.{Frag}
use Rattle.fl_base.specs.Control.{bare}
use Rattle.fl_link.specs.Calls.{bare_calls}
use Rattle.fl_link.specs.Looks.{Look, placed, no_room, spent, saw, saw_ack, found, found_ack, missed, told, kept}
use Rattle.fl_ring.specs.Duo.{acknowledgement}
use Rattle.fl_ring.specs.SharedSides.{TheSide, SharedPuts, SharedTakes}
use Rattle.fl_model.specs.Rings.{Label, acknowledges, RingLabel, Ring, first_side, looks, takes, puts, makes_sure, Room, room, owes}
use Rattle.fl_model.specs.Rings.{there_is_room, no_room as none_free, spent as used_up, for_data, for_acknowledgement}

pub record SideCut : Type 0 where
  -- the machine's ring, of which this side is the first: of the other's half what this one read and told, of its own what it sent and knows
  pub ring : Ring
  -- the fragments that it put, and those of calls that it took, epochs and counts set aside
  pub put : List Frag
  pub got : List Frag

pub record ShowsSide (x : SideCut) (s : TheSide) : Type 0 where
  pub size : s.size ≡ x.ring.size
  pub sent : length s.sent ≡ x.ring.by_first.sent
  pub known : s.known ≡ x.ring.by_first.known
  pub read : length s.got ≡ x.ring.by_second.read
  pub told : s.told ≡ x.ring.by_second.told
  pub put : map bare s.sent ≡ x.put
  pub got : bare_calls s.got ≡ x.got

-- ---- what a look finds

-- what stands first for the side, if something does
abbrev pub Sight : Type 0
Sight = Option RingLabel

abbrev pub first_seen : Sight → List RingLabel
first_seen None = []
first_seen (Some l) = l ∷ []

-- a label with the count that it tells
abbrev pub telling : Label → ℕ → RingLabel
telling label count = record { label = label; told = count }

-- the machine's ring, with that standing first
abbrev pub seeing : Sight → Ring → Ring
seeing sight r = record r { by_second = record r.by_second { waiting = first_seen sight } }

-- ---- what the machine makes of a side, by what its look finds

-- it has looked; or it has taken what stands first, these fragments of calls, and knows what a look at that tells
abbrev pub looked_at : Sight → SideCut → SideCut
looked_at sight x = record x { ring = looks first_side (seeing sight x.ring) }

abbrev pub took : List Frag → Sight → SideCut → SideCut
took frags sight x = record x { ring = takes first_side (looks first_side (seeing sight x.ring)); got = x.got ++ frags }

-- before it puts something that needs so many free slots it has looked, where it knew of fewer
abbrev pub sure_of : ℕ → Sight → SideCut → SideCut
sure_of need sight x = record x { ring = makes_sure need first_side (seeing sight x.ring) }

-- the room that it knows of then
abbrev pub room_of : ℕ → SideCut → Room
room_of need x = room need first_side x.ring

-- it has put this label's fragment
abbrev pub put_on : Label → Frag → SideCut → SideCut
put_on label f x = record x { ring = puts first_side label x.ring; put = x.put ++ bare f ∷ [] }

-- half of the slots were read and aren't told
abbrev pub owes_one : SideCut → Type 0
owes_one x = owes first_side x.ring ≡ true

-- ---- events at a side

-- one tries to put the fragment of a label: there is room, or not, or the ring is spent
pub data PutOutcome : Type 0 where
  goes_on : Frag → PutOutcome
  is_full : PutOutcome
  is_spent : PutOutcome

abbrev pub Places : Label → PutOutcome → SideCut → SideCut → Type 0
Places label (goes_on f) x y =
    (sight : Sight) × (room_of for_data (sure_of for_data sight x) ≡ there_is_room) × (y ≡ put_on label f (sure_of for_data sight x))
Places label is_full x y = (sight : Sight) × (room_of for_data (sure_of for_data sight x) ≡ none_free) × (y ≡ sure_of for_data sight x)
Places label is_spent x y = (sight : Sight) × (room_of for_data (sure_of for_data sight x) ≡ used_up) × (y ≡ sure_of for_data sight x)

-- one looks or takes, and this comes of it
pub data TakeOutcome : Type 0 where
  -- nothing stands there
  nothing_stands : TakeOutcome
  -- a fragment of a call was looked at, and left; was taken
  left_one : Frag → TakeOutcome
  gave_one : Frag → TakeOutcome
  -- one that only acknowledges was taken
  gave_ack : TakeOutcome

abbrev pub SideGives : Label → TakeOutcome → SideCut → SideCut → Type 0
SideGives label nothing_stands x y = y ≡ looked_at None x
SideGives label (left_one f) x y = (count : ℕ) × (y ≡ looked_at (Some (telling label count)) x)
SideGives label (gave_one f) x y = (count : ℕ) × (y ≡ took (f ∷ []) (Some (telling label count)) x)
SideGives label gave_ack x y = (count : ℕ) × (y ≡ took [] (Some (telling acknowledges count)) x)

-- one tells what was read: where half of the slots aren't told, and one is free
pub data AckOutcome : Type 0 where
  is_told : AckOutcome
  is_little : AckOutcome
  finds_none : AckOutcome

abbrev pub Tells : AckOutcome → SideCut → SideCut → Type 0
Tells is_told x y =
    (sight : Sight) × owes_one x × (room_of for_acknowledgement (sure_of for_acknowledgement sight x) ≡ there_is_room)
    × (y ≡ put_on acknowledges acknowledgement (sure_of for_acknowledgement sight x))
Tells is_little x y = (owes first_side x.ring ≡ false) × (y ≡ x)
Tells finds_none x y =
    (sight : Sight) × owes_one x
    × ((room_of for_acknowledgement (sure_of for_acknowledgement sight x) ≡ none_free)
    ⊎ (room_of for_acknowledgement (sure_of for_acknowledgement sight x) ≡ used_up))
    × (y ≡ sure_of for_acknowledgement sight x)

-- ---- laws: what a side of a ring between threads shows, it shows of what the machine makes of that

-- the side has become this
abbrev pub Becomes : (SideCut → SideCut → Type 0) → SideCut → TheSide → Type 0
Becomes Event x t = (y : SideCut) × Event x y × ShowsSide y t

abbrev pub PutShows : Label → Look → SideCut → TheSide → Type 0
PutShows label (placed f) x t = Becomes (Places label (goes_on f)) x t
PutShows label no_room x t = Becomes (Places label is_full) x t
PutShows label spent x t = Becomes (Places label is_spent) x t
PutShows label look x t = ⊥

abbrev pub SidePuts : Type 0
SidePuts = (label : Label) (x : SideCut) (s t : TheSide) (look : Look) → ShowsSide x s → SharedPuts s look t → PutShows label look x t

-- one look or take alone
abbrev pub LookShows : Label → Look → SideCut → TheSide → Type 0
LookShows label (saw f) x t = Becomes (SideGives label (left_one f)) x t
LookShows label missed x t = Becomes (SideGives label nothing_stands) x t
LookShows label told x t = Becomes (Tells is_told) x t
LookShows label kept x t = Becomes (Tells is_little) x t
LookShows label no_room x t = Becomes (Tells finds_none) x t
LookShows label look x t = Unit {0}

abbrev pub SideLooks : Type 0
SideLooks = (label : Label) (x : SideCut) (s t : TheSide) (look : Look) → ShowsSide x s → SharedTakes s look t → LookShows label look x t

-- a take, also where a look came before it
pub record SideTakes : Type 0 where
  pub again : (label : Label) (x : SideCut) (s t : TheSide) (f : Frag) → ShowsSide x s → SharedTakes s (found f) t → Becomes (SideGives label (gave_one f)) x t
  pub one : (label : Label) (x : SideCut) (s m t : TheSide) (f : Frag) → ShowsSide x s → SharedTakes s (saw f) m → SharedTakes m (found f) t
      → Becomes (SideGives label (gave_one f)) x t
  pub ack : (label : Label) (x : SideCut) (s m t : TheSide) → ShowsSide x s → SharedTakes s saw_ack m → SharedTakes m found_ack t
      → Becomes (SideGives label gave_ack) x t
