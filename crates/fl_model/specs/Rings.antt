-- Rings of labels. A ring has so many slots each way between two sides. What stands in a slot is a label:
-- which fragment it is, and the number of fragments of the other direction that its writer had read when it
-- wrote.
use Rattle.std.specs.Prelude.{ℕ, ◌+◌, ◌-◌, ◌/◌, ◌^◌, ◌||◌, nat_le, Bool, if◌then◌else◌, List, [], ◌∷◌, ◌++◌}
use Rattle.std.specs.Prelude.{drop, slice_get, Option}
use Rattle.fl_base.specs.declared.identity.EndId.{EndId}
use Rattle.fl_base.specs.Given.{given}

-- ---- what stands in slots and queues

-- a monitor's request to open a circuit: the circuit's number on the link, the binding, the service by its
-- interface reference, and the whole route
pub record OpeningLabel : Type 0 where
  pub circuit : ℕ
  pub binding : ℕ
  pub service : ℕ
  pub path : List ℕ

-- what a monitor says to its neighbour
pub data MonitorLabel : Type 0 where
  open_circuit : OpeningLabel → MonitorLabel
  -- the circuit with this number on the link is open
  circuit_opened : ℕ → MonitorLabel
  -- it isn't, for the fault with the second number
  circuit_refused : ℕ → ℕ → MonitorLabel

-- what stands for a fragment: of a call's, only which one it is; of a monitor's, what that says
pub data Label : Type 0 where
  -- fragment k, from 0, of all that the end's calls have
  next_of : EndId → ℕ → Label
  -- the one fragment of a monitor's message
  says : MonitorLabel → Label
  -- a fragment that only acknowledges
  acknowledges : Label

-- what stands in a ring's slot
pub record RingLabel : Type 0 where
  pub label : Label
  -- how many fragments of the other direction its writer had read
  pub told : ℕ

-- ---- the state of a ring

-- one direction, written by one side and read by the other
pub record Half : Type 0 where
  -- how many fragments were ever put
  pub sent : ℕ
  -- how many of them the writer knows to be read
  pub known : ℕ
  -- of how many its reader has told that they were read, and how many it has read
  pub told : ℕ
  pub read : ℕ
  -- those that weren't read yet, in order
  pub waiting : List RingLabel

pub record Ring : Type 0 where
  -- the slots of each direction
  pub size : ℕ
  -- what the first side writes, and what the second side writes
  pub by_first : Half
  pub by_second : Half

-- the first is the client's; on a link, that of the core that was named first
pub data RingSide : Type 0 where
  first_side : RingSide
  second_side : RingSide

-- a side of one of the world's rings
pub record RingEnd : Type 0 where
  pub ring : ℕ
  pub side : RingSide

abbrev pub fresh_half : Half
fresh_half = record { sent = 0; known = 0; told = 0; read = 0; waiting = [] }

abbrev pub fresh_ring : ℕ → Ring
fresh_ring size = record { size = size; by_first = fresh_half; by_second = fresh_half }

-- the direction that a side writes
abbrev pub written_by : RingSide → Ring → Half
written_by first_side r = r.by_first
written_by second_side r = r.by_second

-- the direction that a side reads
abbrev pub read_by : RingSide → Ring → Half
read_by first_side r = r.by_second
read_by second_side r = r.by_first

-- the ring with other halves for a side: the one that it writes, and the one that it reads
abbrev pub with_halves : RingSide → Half → Half → Ring → Ring
with_halves first_side out inn r = record { size = r.size; by_first = out; by_second = inn }
with_halves second_side out inn r = record { size = r.size; by_first = inn; by_second = out }

-- what stands first for a side
abbrev pub first_for : RingSide → Ring → Option RingLabel
first_for side r = slice_get (read_by side r).waiting 0

-- ---- looks, and room

-- a side knows of its own direction what it was just told
abbrev pub knows : ℕ → Half → Half
knows count h = record h { known = count }

-- a side looks at what stands first for it, and knows what that tells
abbrev pub looks : RingSide → Ring → Ring
looks side r =
    given (first_for side r) r λ l. with_halves side (knows l.told (written_by side r)) (read_by side r) r

-- the free slots that a side knows of
abbrev pub free : RingSide → Ring → ℕ
free side r = r.size + (written_by side r).known - (written_by side r).sent

-- after 2^62 fragments nothing more is put
abbrev pub is_spent : RingSide → Ring → Bool
is_spent side r = nat_le (2 ^ 62) (written_by side r).sent

-- whether something can be put into a ring or a queue
pub data Room : Type 0 where
  there_is_room : Room
  no_room : Room
  spent : Room

-- by the slots that the side knows to be free, without a look; a spent ring has room for nothing more
abbrev pub room : ℕ → RingSide → Ring → Room
room need side r =
    if is_spent side r then spent else if nat_le need (free side r) then there_is_room else no_room

-- before a side puts something that needs so many free slots: where it knows of fewer, it looks; on a spent
-- ring it doesn't
abbrev pub makes_sure : ℕ → RingSide → Ring → Ring
makes_sure need side r = if is_spent side r || nat_le need (free side r) then r else looks side r

-- data leaves a slot free for an acknowledgement, which needs one
abbrev pub for_data : ℕ
for_data = 2

abbrev pub for_acknowledgement : ℕ
for_acknowledgement = 1

-- ---- puts and takes

-- a label is put behind the others
abbrev pub adds : Label → ℕ → Half → Half
adds label told h =
    record h { sent = h.sent + 1; waiting = h.waiting ++ record { label = label; told = told } ∷ [] }

-- all that was read is told
abbrev pub tells_all : Half → Half
tells_all h = record h { told = h.read }

-- a side puts a label, which tells all that it has read
abbrev pub puts : RingSide → Label → Ring → Ring
puts side label r =
    with_halves side (adds label (read_by side r).read (written_by side r)) (tells_all (read_by side r)) r

-- what stood first is read
abbrev pub reads : Half → Half
reads h = record h { read = h.read + 1; waiting = drop 1 h.waiting }

-- a side takes what stands first for it
abbrev pub takes : RingSide → Ring → Ring
takes side r = with_halves side (written_by side r) (reads (read_by side r)) r

-- ---- acknowledging

-- half a ring was read and isn't told
abbrev pub owes : RingSide → Ring → Bool
owes side r = nat_le (r.size / 2) ((read_by side r).read - (read_by side r).told)
