-- Working file: rooms for the fragments of calls under way at many places, all in one block.
use Rattle.std.specs.Prelude.{◌≡◌, ◌≢◌, ℕ, ◌+◌, ◌≤◌, ◌⊎◌, List, map, length, take, drop, slice_get, slice_set, Option, Some, None}
use Rattle.std.specs.List.{sum_by}
use Rattle.std.specs.Vec.{vec_capacity}
use Rattle.fl_base.specs.declared.fragment.Frag.{Frag}
use Rattle.fl_machine.specs.declared.rooms.RoomRange.{RoomRange}
use Rattle.fl_machine.specs.declared.rooms.Rooms.{Rooms}

-- how many fragments a room holds, and those in it, once it is there
pub record TheRoom : Type 0 where
  pub size : ℕ
  pub frags : Option (List Frag)

abbrev pub not_there : ℕ → TheRoom
not_there size = record { size = size; frags = None }

-- so many fragments of the block from a start on; none where the room has no start yet
abbrev pub frags_from : List Frag → ℕ → Option ℕ → Option (List Frag)
frags_from block size None = None
frags_from block size (Some start) = Some (take size (drop start block))

abbrev pub room_in : List Frag → RoomRange → TheRoom
room_in block s = record { size = s.size; frags = frags_from block s.size s.start }

-- the room of each place
abbrev pub rooms_of : Rooms → List TheRoom
rooms_of t = map (room_in t.block.items) t.spans.items

-- the room at a place is there
pub record IsThere (rooms : List TheRoom) (place : ℕ) : Type 0 where
  pub room : TheRoom
  pub at : slice_get rooms place ≡ Some room
  pub frags : List Frag
  pub frags_are : room.frags ≡ Some frags

-- the room at a place is there from now on, and all others are as they were
pub record IsOpened (before : List TheRoom) (place : ℕ) (after : List TheRoom) : Type 0 where
  pub was : TheRoom
  pub was_there : slice_get before place ≡ Some was
  pub frags : List Frag
  pub long : length frags ≡ was.size
  pub after_is : after ≡ slice_set before place (record { size = was.size; frags = Some frags })

-- ---- where they lie

-- the fragments of a room that isn't there yet
abbrev pub owed_from : ℕ → Option ℕ → ℕ
owed_from size None = size
owed_from size (Some start) = 0

abbrev pub owed_for : RoomRange → ℕ
owed_for s = owed_from s.size s.start

-- where a room is there, it ends within so many fragments
abbrev pub IsWithin : ℕ → RoomRange → Type 0
IsWithin long s = (start : ℕ) → s.start ≡ Some start → start + s.size ≤ long

-- where both are there, one ends before the other begins
abbrev pub AreApart : RoomRange → RoomRange → Type 0
AreApart s u = (start other : ℕ) → s.start ≡ Some start → u.start ≡ Some other → (start + s.size ≤ other) ⊎ (other + u.size ≤ start)

-- rooms within so many fragments, which don't overlap
pub record AreLaid (long : ℕ) (spans : List RoomRange) : Type 0 where
  pub within : (k : ℕ) (s : RoomRange) → slice_get spans k ≡ Some s → IsWithin long s
  pub apart : (j k : ℕ) (s u : RoomRange) → slice_get spans j ≡ Some s → slice_get spans k ≡ Some u → j ≢ k → AreApart s u

-- those that are there lie among so many fragments, and there is memory for the others behind these
pub record AreRooms (long capacity : ℕ) (spans : List RoomRange) (owed : ℕ) : Type 0 where
  pub laid : AreLaid long spans
  pub owed_is : sum_by owed_for spans ≡ owed
  pub reserved : long + owed ≤ capacity

-- the rooms lie apart in the block, which has memory for those that aren't there yet
abbrev pub IsRooms : Rooms → Type 0
IsRooms t = AreRooms (length t.block.items) (vec_capacity t.block) t.spans.items t.owed

-- the room at a place is there, and its fragments are those of the block from one place up to another
pub record LiesAt (t : Rooms) (place : ℕ) (start end : ℕ) : Type 0 where
  pub span : RoomRange
  pub span_there : slice_get t.spans.items place ≡ Some span
  pub start_is : span.start ≡ Some start
  pub end_is : end ≡ start + span.size
  pub within : end ≤ length t.block.items
