-- A core's seat and its places, as code holds them.
use Rattle.std.specs.Prelude.{ℕ, ◌≡◌, ◌+◌, ◌≤◌, ◌<◌, ◌^◌, List, [], ◌∷◌, length}
use mathlib.Core.Option.{some}
use lib.ListN.{get_elem?}
use Rattle.atomic_table.specs.Seated.{TableId}
use Rattle.atomic_table.specs.declared.shared.Seat.{Seat}
use Rattle.fl_history_rings.specs.declared.board.Action.{Action}
use Rattle.fl_history_rings.specs.declared.board.Action.TheVariants.{Found}
use Rattle.fl_history_rings.specs.declared.board.SideEnd.{SideEnd}
use Rattle.fl_history_rings.specs.declared.board.Plan.{Plan}
use Rattle.fl_history_rings.specs.declared.board.Insight.{Insight}
use Rattle.fl_history_rings.specs.declared.board.Insight.TheVariants.{Nothing, Writing, Reading}
use Rattle.fl_history_rings.specs.declared.board.CoreView.{CoreView}
use Rattle.fl_history_rings.specs.declared.board.SeatView.{SeatView}
use Rattle.fl_history_rings.specs.declared.place.SlotPlace.{SlotPlace}
use Rattle.fl_base.specs.Control.{epoch_of, told_of}
use Rattle.fl_link.specs.Cursor.{epoch_at}
use Rattle.fl_ring.specs.Counts.{count_from}
use Rattle.fl_history_rings.specs.Rings.{mate}
use Rattle.fl_history_rings.specs.Rule.{words_of, first_word, ArePaired, part_in, control_in, puts_at}
use Rattle.fl_history_rings.specs.Rule.{takes_at, known_at, view_of, core_of, alone, knowing, with_action}

abbrev pub RingsSeat : Type 0
RingsSeat = Seat (Unit {0}) SeatView

-- what the core of a seat knows
abbrev pub view_at : RingsSeat → CoreView
view_at seat = core_of seat.me.0

-- the core that knows these payload words of the slot that side s puts into next, which may be none
abbrev pub put_insight : ℕ → List ℕ → Insight
put_insight s [] = Nothing
put_insight s (x ∷ xs) = Writing s (x ∷ xs)

-- each of these ways has a slot, and no more than 1,024
abbrev pub HaveSlots : List SideEnd → Type 0
HaveSlots ends = (s : ℕ) (end : SideEnd) → get_elem? ends s ≡ some end → (0 < end.slots) × (end.slots ≤ 1024)

-- the table has the words of all ways, and one more, and its rings are whole
pub record IsLaid (table : TableId) (plan : Plan) : Type 0 where
  pub wide : table.words ≡ words_of plan.sides.items + 1
  pub short : table.words < 2 ^ 64
  pub some_slots : HaveSlots plan.sides.items
  pub paired : ArePaired plan.sides.items

-- a core's seat at this table
pub record IsSeated (table : TableId) (plan : Plan) (seat : RingsSeat) : Type 0 where
  pub same : seat.table_id ≡ table
  pub laid : IsLaid table plan
  pub alone_is : seat.me
      ≡ alone (view_of plan.sides.items (view_at seat).core (view_at seat).steps (view_at seat).knows)

-- where the core puts next by a side of its own
pub record IsPutPlace (ends : List SideEnd) (h : CoreView) (place : SlotPlace) : Type 0 where
  pub end : SideEnd
  pub there : get_elem? ends place.side ≡ some end
  pub mine : end.core ≡ h.core
  pub base_is : place.base ≡ first_word ends place.side
  pub size_is : place.cursor.size ≡ end.slots
  pub index_is : place.cursor.index ≡ length (puts_at place.side h.steps)

-- where it takes from next by a side of its own: from the way of the other side
pub record IsTakePlace (ends : List SideEnd) (h : CoreView) (place : SlotPlace) : Type 0 where
  pub end : SideEnd
  pub there : get_elem? ends place.side ≡ some end
  pub mine : end.core ≡ h.core
  pub base_is : place.base ≡ first_word ends (mate place.side)
  pub size_is : place.cursor.size ≡ end.slots
  pub index_is : place.cursor.index ≡ length (takes_at place.side h.steps)

-- a slot is free, by what the side knows
abbrev pub HasSlot : CoreView → SlotPlace → Type 0
HasSlot h place = length (puts_at place.side h.steps) < known_at place.side h.steps + place.cursor.size

-- payload words of the next slot alone are in hand, and this one comes next
pub record IsNextWord (h : CoreView) (place : SlotPlace) (k : ℕ) : Type 0 where
  pub in_hand : h.knows ≡ put_insight place.side (part_in h.knows)
  pub next : k ≡ length (part_in h.knows)
  pub seven : k < 7

-- these payload words of the fragment that stands first are in hand, and its control word, which has the
-- epoch due
pub record IsReading (h : CoreView) (place : SlotPlace) (part : List ℕ) : Type 0 where
  pub in_hand : h.knows ≡ Reading place.side part (control_in h.knows)
  pub due : epoch_of (control_in h.knows) ≡ epoch_at place.cursor.size place.cursor.index

-- what this control word tells side s to be taken was put
abbrev pub CountsWithin : CoreView → ℕ → ℕ → Type 0
CountsWithin h s control = count_from (known_at s h.steps) (told_of control) ≤ length (puts_at s h.steps)

-- ---- what a core's seat is after steps

-- this is in hand
abbrev pub HasInHand : RingsSeat → Insight → RingsSeat → Type 0
HasInHand old insight new = new.me ≡ alone (knowing (view_at old) insight)

-- the core did this too, and nothing is in hand; or this is
abbrev pub HasDone : RingsSeat → ℕ → Action → RingsSeat → Type 0
HasDone old s d new = new.me ≡ alone (with_action (view_at old) s d Nothing)

abbrev pub HasFound : RingsSeat → ℕ → ℕ → RingsSeat → Type 0
HasFound old s control new =
    new.me ≡ alone (with_action (view_at old) s (Found control) (Reading s [] control))

-- it did these two things
abbrev pub HasDoneBoth : RingsSeat → ℕ → Action → Action → RingsSeat → Type 0
HasDoneBoth old s d e new = new.me ≡ alone (with_action (with_action (view_at old) s d Nothing) s e Nothing)
