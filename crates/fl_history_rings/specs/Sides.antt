-- The sides of rings, beside the seat of their core, and what their calls add to what the core did.
use Rattle.std.specs.Prelude.{ℕ, ◌≡◌, ◌≢◌, ◌+◌, ◌-◌, ◌/◌, ◌%◌, ◌≤◌, ◌<◌, ◌^◌, ◌⊎◌, ◌&&◌}
use Rattle.std.specs.Prelude.{Bool, nat_lt, nat_le, List, Some, None}
use Rattle.fl_base.specs.declared.fragment.Frag.{Frag}
use Rattle.fl_base.specs.Control.{epoch_of, stamped, told_of}
use Rattle.fl_link.specs.Cursor.{epoch_at}
use Rattle.fl_ring.specs.Counts.{count_from}
use Rattle.fl_history_rings.specs.declared.board.Action.TheVariants.{Put, Found, Missed, Saw, Took}
use Rattle.fl_history_rings.specs.declared.board.SideEnd.{SideEnd}
use Rattle.fl_history_rings.specs.declared.board.CoreView.{CoreView}
use Rattle.fl_history_rings.specs.declared.place.SlotPlace.{SlotPlace}
use Rattle.fl_history_rings.specs.declared.place.RingSide.{RingSide}
use Rattle.fl_history_rings.specs.Rings.{mate}
use Rattle.fl_history_rings.specs.Rule.{first_word, known_at, told_at, seen_at, at_rest}
use Rattle.fl_history_rings.specs.Seats.{IsPutPlace, IsTakePlace}
use Rattle.fl_history_rings.specs.Cores.{TheCore, noting}

-- the place before the first fragment of a way of so many slots
abbrev pub place_from : ℕ → ℕ → ℕ → SlotPlace
place_from side base slots = record { side = side; base = base; cursor = record { index = 0; size = slots } }

-- the side of this number before it did anything
abbrev pub side_from : List SideEnd → ℕ → ℕ → RingSide
side_from ends side slots = record {
  put = place_from side (first_word ends side) slots;
  take = place_from side (first_word ends (mate side)) slots;
  known = 0;
  told = 0;
}

-- this is the side by which a core that did and knows this puts and takes
pub record StepsBy (ends : List SideEnd) (h : CoreView) (a : RingSide) : Type 0 where
  pub put : IsPutPlace ends h a.put
  pub take : IsTakePlace ends h a.take
  pub one : a.take.side ≡ a.put.side
  -- how many of its fragments it knows to be taken, and how many of the other side's it told
  pub known_is : a.known ≡ known_at a.put.side h.steps
  pub told_is : a.told ≡ told_at a.put.side h.steps
  -- it put what it knows to be taken, and no round more
  pub known_put : a.known ≤ a.put.cursor.index
  pub near : a.put.cursor.index ≤ a.known + a.put.cursor.size
  -- as many as it can count
  pub most : a.put.cursor.index ≤ 2 ^ 62
  pub most_taken : a.take.cursor.index ≤ 2 ^ 62

-- the same of a core as callers see it
abbrev pub SideFor : TheCore → RingSide → Type 0
SideFor s a = StepsBy s.sides (at_rest s.sides s.number s.steps) a

-- it put what it knows to be taken, and no round more
abbrev pub IsNear : RingSide → Type 0
IsNear a = (a.known ≤ a.put.cursor.index) × (a.put.cursor.index ≤ a.known + a.put.cursor.size)

-- whether data would find room, by what the side knows
abbrev pub has_room : RingSide → Bool
has_room a = nat_lt a.put.cursor.index (2 ^ 62)
    && nat_le 2 (a.put.cursor.size + a.known - a.put.cursor.index)

-- so many slots are free by what the side knows, or fewer are
abbrev pub HasFree : ℕ → RingSide → Type 0
HasFree need a = a.put.cursor.index + need ≤ a.known + a.put.cursor.size

abbrev pub LacksFree : ℕ → RingSide → Type 0
LacksFree need a = a.known + a.put.cursor.size < a.put.cursor.index + need

-- the side, once it counted what this control word tells
abbrev pub counting : RingSide → ℕ → RingSide
counting a control = record a { known = count_from a.known (told_of control) }

-- A fragment with this control word may stand first for the side: it has the epoch due, and is that of the
-- fragment that the side has seen and not taken, if there is one; what it tells to be taken the side put.
pub record MayStand (s : TheCore) (a : RingSide) (control : ℕ) : Type 0 where
  pub due : epoch_of control ≡ epoch_at a.take.cursor.size a.take.cursor.index
  pub seen : (frag : Frag) → seen_at a.put.side s.steps ≡ Some frag → frag.control ≡ control
  pub told_put : count_from a.known (told_of control) ≤ a.put.cursor.index

-- a look at what stands first: nothing does, and none was seen, or a fragment whose control word tells a count
abbrev pub LooksForRoom : TheCore → RingSide → RingSide → TheCore → Type 0
LooksForRoom s a a' t =
    ((t ≡ noting s a.put.side Missed) × (a' ≡ a) × (seen_at a.put.side s.steps ≡ None))
    ⊎ ((control : ℕ) × (t ≡ noting s a.put.side (Found control)) × (a' ≡ counting a control)
    × MayStand s a control)

-- The side counts its free slots. It looks only where what it knows leaves too few.
pub record FindsRoom (need : ℕ) (s : TheCore) (a a' : RingSide) (t : TheCore) : Type 0 where
  pub by_known : HasFree need a → (t ≡ s) × (a' ≡ a)
  pub by_look : LacksFree need a → LooksForRoom s a a' t

-- the place behind this one
abbrev pub next_place : SlotPlace → SlotPlace
next_place p = record {
  side = p.side;
  base = p.base;
  cursor = record { index = p.cursor.index + 1; size = p.cursor.size };
}

-- the side once it put a fragment, which acknowledges all that it took; and once it took one
abbrev pub having_put : RingSide → RingSide
having_put a = record a { put = next_place a.put; told = a.take.cursor.index }

abbrev pub having_taken : RingSide → RingSide
having_taken a = record a { take = next_place a.take }

-- the fragment as it is put: with the epoch due, and the number of all that was taken
abbrev pub put_by : RingSide → Frag → Frag
put_by a frag =
    stamped frag (epoch_at a.put.cursor.size a.put.cursor.index) (a.take.cursor.index % 65536)

-- so many slots were free, and this fragment is put
abbrev pub Puts : ℕ → TheCore → RingSide → Frag → RingSide → TheCore → Type 0
Puts need s a frag a' t = (between : TheCore) × (mid : RingSide)
    × FindsRoom need s a mid between × HasFree need mid
    × (t ≡ noting between a.put.side (Put (put_by mid frag))) × (a' ≡ having_put mid)

-- so much is taken and not acknowledged: less than half of the slots, or at least half
abbrev pub TellsNothing : RingSide → Type 0
TellsNothing a = a.take.cursor.index - a.told < a.take.cursor.size / 2

abbrev pub TellsSome : RingSide → Type 0
TellsSome a = a.take.cursor.size / 2 ≤ a.take.cursor.index - a.told

-- fewer slots than so many are free, also after a look
abbrev pub FindsNone : ℕ → TheCore → RingSide → RingSide → TheCore → Type 0
FindsNone need s a a' t = FindsRoom need s a a' t × LacksFree need a'

-- A call by side a leaves a': it has the same number, and the core's sides of other numbers are as they were.
pub record LeavesOthers (a a' : RingSide) (s t : TheCore) : Type 0 where
  pub number : a'.put.side ≡ a.put.side
  pub others : (b : RingSide) → b.put.side ≢ a.put.side → SideFor s b → SideFor t b

-- nothing was done
abbrev pub Stays : TheCore → RingSide → RingSide → TheCore → Type 0
Stays s a a' t = (t ≡ s) × (a' ≡ a)

-- the side has put as many fragments as it can count
abbrev pub IsSpent : RingSide → Type 0
IsSpent a = a.put.cursor.index ≡ 2 ^ 62

-- a look found nothing
abbrev pub Misses : TheCore → RingSide → RingSide → TheCore → Type 0
Misses s a a' t = (t ≡ noting s a.put.side Missed) × (a' ≡ a)

-- it found this fragment, and left it, or took it
abbrev pub Sees : TheCore → RingSide → Frag → RingSide → TheCore → Type 0
Sees s a frag a' t = (t ≡ noting (noting s a.put.side (Found frag.control)) a.put.side (Saw frag))
    × (a' ≡ counting a frag.control)

abbrev pub Takes : TheCore → RingSide → Frag → RingSide → TheCore → Type 0
Takes s a frag a' t = (t ≡ noting (noting s a.put.side (Found frag.control)) a.put.side (Took frag))
    × (a' ≡ having_taken (counting a frag.control))
