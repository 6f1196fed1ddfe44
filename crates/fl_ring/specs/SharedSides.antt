-- The sides of a ring of two directions over shared words: as their code holds them, and what callers
-- see of them.
use Rattle.std.specs.Prelude.{ℕ, ◌≡◌, ◌+◌, ◌-◌, ◌*◌, ◌/◌, ◌%◌, ◌≤◌, ◌<◌, ◌^◌, ◌⊎◌, ◌&&◌, nat_lt, nat_le, Bool, false, List, [], ◌∷◌, ◌++◌, length}
use Rattle.std.specs.Prelude.{replicate, Option, Some, None}
use Rattle.atomic_table.specs.Seated.{TableId}
use Rattle.atomic_table.specs.declared.shared.Seat.{Seat}
use Rattle.fl_base.specs.declared.fragment.Frag.{Frag}
use Rattle.fl_base.specs.Control.{epoch_of, told_of, is_ack_only, stamped}
use Rattle.fl_base.specs.Prefix.{IsPrefix}
use Rattle.fl_link.specs.Cursor.{TheCursor, epoch_at}
use Rattle.fl_link.specs.Looks.{Look, placed, no_room, spent, saw, saw_ack, found, found_ack, missed, told, kept}
use Rattle.fl_link.specs.Queue.{look_at}
use Rattle.fl_ring.specs.Counts.{count_from}
use Rattle.fl_ring.specs.Duo.{acknowledgement}
use Rattle.fl_ring.specs.declared.shared.duo_board.SideView.{SideView}
use Rattle.fl_ring.specs.declared.shared.duo_board.SeatHolder.{SeatHolder}
use Rattle.fl_ring.specs.declared.shared.duo_board.DuoStart.{DuoStart}
use Rattle.fl_ring.specs.declared.shared.duo_board.DuoView.{DuoView}
use Rattle.fl_ring.specs.SharedDuo.{IsOneSide, base_of, other_of, blank}
use Rattle.fl_ring.specs.SharedSeats.{with_part, with_frag, with_words}

-- a seat at the table of a ring of two directions, with what it knows of its side
abbrev pub DuoSeat : Type 0
DuoSeat = Seat (Unit {0}) DuoView

-- one side's seat at this table, which was told this many slots
pub record IsDuoSeated (table : TableId) (key : DuoStart) (seat : DuoSeat) : Type 0 where
  pub same : seat.table_id ≡ table
  pub key_is : key.size ≡ seat.me.0.size
  pub wide : table.words ≡ 16 * seat.me.0.size
  pub some : 0 < seat.me.0.size
  pub few : seat.me.0.size ≤ 1024
  pub side : IsOneSide seat.me.0.holder

-- the numbers that a side's code keeps
pub record SideFields : Type 0 where
  -- the first word of the slots that it writes, and of those that it reads
  pub base : ℕ
  pub other : ℕ
  -- where it puts next, and takes next
  pub put : TheCursor
  pub take : TheCursor
  -- how many of its fragments it knows to be taken, and how many of the other side's it told
  pub known : ℕ
  pub told : ℕ

-- a side's seat between two calls, with the numbers that its code keeps
pub record IsSide (seat : DuoSeat) (kept : SideFields) : Type 0 where
  pub base_is : kept.base ≡ base_of seat.me.0.holder seat.me.0.size
  pub other_is : kept.other ≡ other_of seat.me.0.holder seat.me.0.size
  pub none_held : seat.me.1 ≡ []
  pub part : seat.me.0.mine.put.part ≡ []
  pub put_size : kept.put.size ≡ seat.me.0.size
  pub take_size : kept.take.size ≡ seat.me.0.size
  pub put_index : length seat.me.0.mine.put.sent ≡ kept.put.index
  pub take_index : length seat.me.0.mine.take.got ≡ kept.take.index
  pub known_is : seat.me.0.mine.put.known ≡ kept.known
  pub told_is : seat.me.0.mine.take.told ≡ kept.told
  pub told_got : kept.told ≤ kept.take.index
  pub known_sent : kept.known ≤ kept.put.index
  pub room : kept.put.index ≤ kept.known + seat.me.0.size
  pub most : kept.put.index ≤ 2 ^ 62

-- ---- what callers see

pub record TheSide : Type 0 where
  -- which ring it is, and which side
  pub ring : TableId
  pub holder : SeatHolder
  -- slots of each direction
  pub size : ℕ
  -- the fragments that it has put, as they stand in the ring
  pub sent : List Frag
  -- how many of them it knows to be taken
  pub known : ℕ
  -- how often it has loaded a control word of the other direction
  pub loads : ℕ
  -- the other side's fragments that it has taken
  pub got : List Frag
  -- the fragment that a peek has seen, until it is taken
  pub peeked : Option Frag
  -- how often it found nothing
  pub misses : ℕ
  -- how many fragments it has told
  pub told : ℕ

abbrev pub side_of_seat : DuoSeat → TheSide
side_of_seat s = record {
  ring = s.table_id;
  holder = s.me.0.holder;
  size = s.me.0.size;
  sent = s.me.0.mine.put.sent;
  known = s.me.0.mine.put.known;
  loads = s.me.0.mine.put.loads;
  got = s.me.0.mine.take.got;
  peeked = s.me.0.mine.take.peeked;
  misses = s.me.0.mine.take.misses;
  told = s.me.0.mine.take.told;
}

-- a side of a ring through which so many blank fragments have passed each way, all told
abbrev pub started_side : TableId → SeatHolder → ℕ → ℕ → TheSide
started_side ring holder n start = record {
  ring = ring;
  holder = holder;
  size = n;
  sent = replicate start blank;
  known = start;
  loads = 0;
  got = replicate start blank;
  peeked = None;
  misses = 0;
  told = start;
}

-- how many of its slots are free, by what it knows
abbrev pub free_of : TheSide → ℕ
free_of s = s.size + s.known - length s.sent

-- whether data would find room, by what it knows
abbrev pub side_has_room : TheSide → Bool
side_has_room s = nat_lt (length s.sent) (2 ^ 62) && nat_le 2 (free_of s)

-- the side after a look at the other direction's next control word: it found nothing, or a count
abbrev pub side_missed : TheSide → TheSide
side_missed s = record {
  ring = s.ring;
  holder = s.holder;
  size = s.size;
  sent = s.sent;
  known = s.known;
  loads = s.loads + 1;
  got = s.got;
  peeked = s.peeked;
  misses = s.misses + 1;
  told = s.told;
}

abbrev pub side_counted : TheSide → ℕ → TheSide
side_counted s count = record {
  ring = s.ring;
  holder = s.holder;
  size = s.size;
  sent = s.sent;
  known = count;
  loads = s.loads + 1;
  got = s.got;
  peeked = s.peeked;
  misses = s.misses;
  told = s.told;
}

-- the side that has seen this fragment, or taken it: it knows the count that the fragment tells
abbrev pub side_seen : TheSide → Frag → TheSide
side_seen s frag = record {
  ring = s.ring;
  holder = s.holder;
  size = s.size;
  sent = s.sent;
  known = count_from s.known (told_of frag.control);
  loads = s.loads + 1;
  got = s.got;
  peeked = Some frag;
  misses = s.misses;
  told = s.told;
}

abbrev pub side_taken : TheSide → Frag → TheSide
side_taken s frag = record {
  ring = s.ring;
  holder = s.holder;
  size = s.size;
  sent = s.sent;
  known = count_from s.known (told_of frag.control);
  loads = s.loads + 1;
  got = s.got ++ frag ∷ [];
  peeked = None;
  misses = s.misses;
  told = s.told;
}

-- the side that has written this fragment: its control word tells all that the side got
abbrev pub side_written : TheSide → Frag → TheSide
side_written s frag = record {
  ring = s.ring;
  holder = s.holder;
  size = s.size;
  sent = s.sent ++ stamped frag (epoch_at s.size (length s.sent)) (length s.got % 65536) ∷ [];
  known = s.known;
  loads = s.loads;
  got = s.got;
  peeked = s.peeked;
  misses = s.misses;
  told = length s.got;
}

-- what it knows to be taken it has put
abbrev pub KnowsSent : TheSide → Type 0
KnowsSent s = s.known ≤ length s.sent

-- This control word may be that of the other direction's next fragment: it has the epoch due, and is that
-- of the fragment that was peeked, if one was.
pub record MayStand (s : TheSide) (control : ℕ) : Type 0 where
  pub due : epoch_of control ≡ epoch_at s.size (length s.got)
  pub seen : (frag : Frag) → s.peeked ≡ Some frag → frag.control ≡ control

-- A write that needs so many slots looks at the other direction only where too few are known free. The
-- look finds nothing, or a control word; what is known then is the one count, from the one known on, that
-- agrees with its number.
pub record Looked (need : ℕ) (s t : TheSide) : Type 0 where
  pub by_known : need ≤ free_of s → t ≡ s
  pub by_look : free_of s < need → ((s.peeked ≡ None) × (t ≡ side_missed s))
      ⊎ ((control : ℕ) × MayStand s control × (t ≡ side_counted s (count_from s.known (told_of control))) × KnowsSent t)

-- one put, by what it came to
abbrev pub SharedPuts : TheSide → Look → TheSide → Type 0
SharedPuts s (placed frag) t = (is_ack_only frag ≡ false) × (length s.sent < 2 ^ 62)
    × ((m : TheSide) × Looked 2 s m × (2 ≤ free_of m) × (t ≡ side_written m frag))
SharedPuts s no_room t = (length s.sent < 2 ^ 62) × Looked 2 s t × (free_of s < 2) × (free_of t < 2)
SharedPuts s spent t = (length s.sent ≡ 2 ^ 62) × (t ≡ s)
SharedPuts s _ t = ⊥

-- this fragment may come next: it is the one that was peeked, if one was
abbrev pub SideMayCome : TheSide → Frag → Type 0
SideMayCome s frag = (seen : Frag) → s.peeked ≡ Some seen → frag ≡ seen

-- the side sees this fragment and leaves it, or takes it; no more is known to be taken then than it put
abbrev pub SideSees : TheSide → Frag → TheSide → Type 0
SideSees s frag t = SideMayCome s frag × (t ≡ side_seen s frag) × KnowsSent t

abbrev pub SideGets : TheSide → Frag → TheSide → Type 0
SideGets s frag t = SideMayCome s frag × (t ≡ side_taken s frag) × KnowsSent t

-- nothing was there, and nothing was peeked
abbrev pub SideMisses : TheSide → TheSide → Type 0
SideMisses s t = (s.peeked ≡ None) × (t ≡ side_missed s)

-- how many it has taken and not told
abbrev pub unacknowledged_of : TheSide → ℕ
unacknowledged_of s = length s.got - s.told

-- One look, take or tell, by what it came to. A tell writes where at least half of the slots are
-- taken and not told, and needs one free slot.
abbrev pub SharedTakes : TheSide → Look → TheSide → Type 0
SharedTakes s (saw frag) t = (first : Frag) × (look_at first ≡ saw frag) × SideSees s first t
SharedTakes s saw_ack t = (first : Frag) × (look_at first ≡ saw_ack) × SideSees s first t
SharedTakes s (found frag) t = (first : Frag) × (look_at first ≡ saw frag) × SideGets s first t
SharedTakes s found_ack t = (first : Frag) × (look_at first ≡ saw_ack) × SideGets s first t
SharedTakes s missed t = SideMisses s t
SharedTakes s told t = (s.size / 2 ≤ unacknowledged_of s) × (length s.sent < 2 ^ 62)
    × ((m : TheSide) × Looked 1 s m × (1 ≤ free_of m) × (t ≡ side_written m acknowledgement))
SharedTakes s kept t = (unacknowledged_of s < s.size / 2) × (t ≡ s)
SharedTakes s no_room t = (s.size / 2 ≤ unacknowledged_of s)
    × (((length s.sent ≡ 2 ^ 62) × (t ≡ s)) ⊎ ((length s.sent < 2 ^ 62) × Looked 1 s t × (free_of s < 1) × (free_of t < 1)))
SharedTakes s _ t = ⊥

-- ---- several steps in a row

-- the side that knows these payload words of the slot that it puts into next
abbrev pub side_with_part : SideView → List ℕ → SideView
side_with_part s words = record { put = with_part s.put words; take = s.take }

-- this fragment is put, and all that was got is told
abbrev pub side_with_frag : SideView → Frag → SideView
side_with_frag s frag = record {
  put = with_frag s.put frag;
  take = record { got = s.take.got; part = s.take.part; last = s.take.last; peeked = s.take.peeked; misses = s.take.misses; told = length s.take.got };
}

-- the side that has loaded these payload words of the next fragment
abbrev pub side_with_words : SideView → List ℕ → SideView
side_with_words s words = record { put = s.put; take = with_words s.take words }

-- ---- both sides in one hand again

-- Of the fragments that w put and r took: those taken are a prefix of those put, and what w knows was
-- acknowledged, what was acknowledged was taken, and no more than its slots were put beyond what w knows.
-- So a number of 16 bits names one count.
pub record SidesNear (w r : TheSide) : Type 0 where
  pub few : w.size ≤ 1024
  pub same_size : r.size ≡ w.size
  pub got_sent : IsPrefix r.got w.sent
  pub known_told : w.known ≤ r.told
  pub told_got : r.told ≤ length r.got
  pub told_sent : r.told ≤ length w.sent
  pub sent_near : length w.sent ≤ w.known + w.size
