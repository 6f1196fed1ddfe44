-- A core, as its code holds it and as callers see it.
use Rattle.std.specs.Prelude.{ℕ, ◌≡◌, ◌+◌, ◌-◌, ◌≤◌, ◌<◌, List, [], ◌∷◌, ◌++◌, length, map}
use mathlib.Core.Option.{some}
use lib.ListN.{get_elem?}
use Rattle.atomic_table.specs.Seated.{TableId}
use Rattle.fl_history_rings.specs.declared.board.Action.{Action}
use Rattle.fl_history_rings.specs.declared.board.Entry.{Entry}
use Rattle.fl_ring.specs.Duo.{MayHaveSlots}
use Rattle.fl_history_rings.specs.declared.board.RingEnds.{RingEnds}
use Rattle.fl_history_rings.specs.declared.board.SideEnd.{SideEnd}
use Rattle.fl_history_rings.specs.declared.board.Plan.{Plan}
use Rattle.fl_history_rings.specs.declared.board.RingsBoard.{RingsBoard}
use Rattle.fl_history_rings.specs.declared.board.CoreView.{CoreView}
use Rattle.fl_history_rings.specs.declared.board.Insight.TheVariants.{Nothing}
use Rattle.fl_history_rings.specs.Rings.{Way, Goes, Runs, all_empty, entry, IsByItsCore, steps_of}
use Rattle.fl_history_rings.specs.Rule.{seat_of, core_of, fresh_cores}
use Rattle.fl_history_rings.specs.Seats.{RingsSeat, view_at, IsLaid, IsSeated}

-- what the table was told of its plan
abbrev pub key_of : RingsBoard → Plan
key_of board = board.table.shared.key

-- a core between two calls: its seat, and its number
pub record IsWhole (board : RingsBoard) (seat : RingsSeat) (number : ℕ) : Type 0 where
  pub seated : IsSeated board.table.shared.table_id (key_of board) seat
  pub rest : (view_at seat).knows ≡ Nothing
  pub number_is : (view_at seat).core ≡ number
  pub plan_is : key_of board ≡ board.plan

-- ---- what callers see

pub record TheCore : Type 0 where
  -- which table it is, and the sides of its rings
  pub table : TableId
  pub sides : List SideEnd
  -- which core, and what it did, in order
  pub number : ℕ
  pub steps : List Entry

abbrev pub shown : TableId → CoreView → TheCore
shown table h = record { table = table; sides = h.sides; number = h.core; steps = h.steps }

abbrev pub core_shown : RingsSeat → TheCore
core_shown seat = shown seat.table_id (view_at seat)

-- the core, once it did this too
abbrev pub noting : TheCore → ℕ → Action → TheCore
noting s side action = record {
  table = s.table;
  sides = s.sides;
  number = s.number;
  steps = s.steps ++ entry s.number side action ∷ [];
}

-- it is the same core, which may have done more
pub record IsSameCore (s t : TheCore) : Type 0 where
  pub table_is : t.table ≡ s.table
  pub sides_are : t.sides ≡ s.sides
  pub number_is : t.number ≡ s.number

-- this side is this core's
abbrev pub Owns : List SideEnd → ℕ → ℕ → Type 0
Owns ends side core = (end : SideEnd) × (get_elem? ends side ≡ some end) × (end.core ≡ core)

-- and its ring has so many slots each way
abbrev pub OwnsSlots : List SideEnd → ℕ → ℕ → ℕ → Type 0
OwnsSlots ends side core slots =
    (end : SideEnd) × (get_elem? ends side ≡ some end) × (end.core ≡ core) × (end.slots ≡ slots)

-- ---- cores that are given out, one by one

-- the ring has as many slots each way as a ring may have, and its sides are those of so many cores
pub record IsRingOf (cores : ℕ) (ring : RingEnds) : Type 0 where
  pub slots : MayHaveSlots ring.slots
  pub first : ring.first < cores
  pub second : ring.second < cores

pub record TheCoresLeft : Type 0 where
  pub table : TableId
  pub sides : List SideEnd
  -- how many cores there are, and how many were given out
  pub cores : ℕ
  pub next : ℕ

pub record AreLeft (board : RingsBoard) (seat : RingsSeat) (next : ℕ) : Type 0 where
  pub same : seat.table_id ≡ board.table.shared.table_id
  pub laid : IsLaid board.table.shared.table_id (key_of board)
  pub plan_is : key_of board ≡ board.plan
  pub within : next ≤ (key_of board).cores
  pub waiting : seat.me
      ≡ (seat_of (fresh_cores (key_of board).sides.items next ((key_of board).cores - next)), [])

abbrev pub left_shown : RingsBoard → RingsSeat → ℕ → TheCoresLeft
left_shown board seat next = record {
  table = seat.table_id;
  sides = (key_of board).sides.items;
  cores = (key_of board).cores;
  next = next;
}

abbrev pub all_left : TableId → List SideEnd → ℕ → TheCoresLeft
all_left table ends cores = record { table = table; sides = ends; cores = cores; next = 0 }

-- the next core, which did nothing yet, and what is left without it
abbrev pub next_core : TheCoresLeft → TheCore
next_core o = record { table = o.table; sides = o.sides; number = o.next; steps = [] }

abbrev pub without_next : TheCoresLeft → TheCoresLeft
without_next o = record { table = o.table; sides = o.sides; cores = o.cores; next = o.next + 1 }

-- ---- cores together again

pub record TheGathering : Type 0 where
  pub table : TableId
  pub sides : List SideEnd
  pub cores : List TheCore

pub record IsGathering (board : RingsBoard) (seat : RingsSeat) : Type 0 where
  pub same : seat.table_id ≡ board.table.shared.table_id
  pub some_words : 0 < board.table.shared.table_id.words
  pub none_held : seat.me.1 ≡ []
  pub some_core : 0 < length seat.me.0.cores

abbrev pub gathering_shown : RingsSeat → TheGathering
gathering_shown seat = record {
  table = seat.table_id;
  sides = (core_of seat.me.0).sides;
  cores = map (shown seat.table_id) seat.me.0.cores;
}

-- one core, and one more
abbrev pub gathering_of : TheCore → TheGathering
gathering_of c = record { table = c.table; sides = c.sides; cores = c ∷ [] }

abbrev pub with_core : TheGathering → TheCore → TheGathering
with_core g c = record { table = g.table; sides = g.sides; cores = g.cores ++ c ∷ [] }

-- One order of all that these cores did by all sides, from when the rings were empty.
pub record InOneOrder (ends : List SideEnd) (cores : List TheCore) : Type 0 where
  pub sides_are : (i : ℕ) (c : TheCore) → get_elem? cores i ≡ some c → c.sides ≡ ends
  pub log : List Entry
  -- how the ways stand in the end
  pub queues : List Way
  -- Each step finds how its ring stands at that moment: what is found, seen and taken is the fragment that
  -- stands first, nothing is where a look finds nothing, and a fragment that is put finds a free slot and
  -- tells how many its side had taken.
  pub runs : Runs (Goes ends) (all_empty (length ends)) log queues
  -- each is a step of the core whose side it is
  pub by_its_core : (i : ℕ) (e : Entry) → get_elem? log i ≡ some e → IsByItsCore ends e
  -- Of each of these cores it has all that it did, in its order, and no more. Of other cores that the sides
  -- name it may have any steps.
  pub did : (i : ℕ) (c : TheCore) → get_elem? cores i ≡ some c → steps_of c.number log ≡ c.steps
