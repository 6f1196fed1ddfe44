-- The seats of a ring over shared words, as its code holds them, and what callers see of a side.
use Rattle.std.specs.Prelude.{ℕ, ◌≡◌, ◌+◌, ◌*◌, ◌≤◌, ◌<◌, ◌^◌, ◌&&◌, nat_lt, Bool, true, false, if◌then◌else◌, List, [], ◌∷◌, ◌++◌, length, Option}
use Rattle.std.specs.Prelude.{Some, None}
use Rattle.atomic_table.specs.Seated.{TableId}
use Rattle.atomic_table.specs.declared.shared.Seat.{Seat}
use Rattle.fl_base.specs.declared.fragment.Frag.{Frag}
use Rattle.fl_base.specs.Control.{is_ack_only, stamped}
use Rattle.fl_base.specs.Prefix.{IsPrefix}
use Rattle.fl_link.specs.Cursor.{epoch_at}
use Rattle.fl_link.specs.Looks.{Look, placed, no_room, spent, saw, saw_ack, found, found_ack, missed, told}
use Rattle.fl_link.specs.Queue.{look_at}
use Rattle.fl_link.specs.declared.sides.Sight.{Sight}
use Rattle.fl_link.specs.declared.sides.Sight.TheVariants.{Data, Acknowledgement}
use Rattle.fl_ring.specs.declared.shared.board.WriterView.{WriterView}
use Rattle.fl_ring.specs.declared.shared.board.ReaderView.{ReaderView}
use Rattle.fl_ring.specs.declared.shared.board.RingView.{RingView}

-- a seat at a ring's table, with what it knows of the ring
abbrev pub RingSeat : Type 0
RingSeat = Seat (Unit {0}) RingView

-- a seat at this table, which was told this many slots
pub record IsSeated (table : TableId) (key : ℕ) (seat : RingSeat) : Type 0 where
  pub same : seat.table_id ≡ table
  pub key_is : key ≡ seat.me.0.size
  pub wide : table.words ≡ 8 * seat.me.0.size + 8
  pub some : 0 < seat.me.0.size
  pub few : seat.me.0.size ≤ 1024

-- the writer's seat between two calls, with the numbers that its code keeps
pub record IsWriter (seat : RingSeat) (n index known : ℕ) : Type 0 where
  pub writes : seat.me.0.writes ≡ true
  pub size : seat.me.0.size ≡ n
  pub none_held : seat.me.1 ≡ []
  pub part : seat.me.0.put.part ≡ []
  pub index_is : length seat.me.0.put.sent ≡ index
  pub known_is : seat.me.0.put.known ≡ known
  pub known_sent : known ≤ index
  pub room : index ≤ known + n
  pub most : index ≤ 2 ^ 62

-- the reader's
pub record IsReader (seat : RingSeat) (n index : ℕ) : Type 0 where
  pub reads : seat.me.0.reads ≡ true
  pub size : seat.me.0.size ≡ n
  pub none_held : seat.me.1 ≡ []
  pub index_is : length seat.me.0.take.got ≡ index

-- ---- what callers see

-- the side that puts
pub record Sender : Type 0 where
  -- which ring it is
  pub ring : TableId
  pub size : ℕ
  -- the fragments that it has put, as they stand in the ring
  pub sent : List Frag
  -- how many of them it knows to be read and told
  pub known : ℕ
  -- how often it has loaded the number told
  pub loads : ℕ

-- the side that takes
pub record Receiver : Type 0 where
  pub ring : TableId
  pub size : ℕ
  -- the fragments that it has taken
  pub got : List Frag
  -- the fragment that a peek has seen, until it is taken
  pub peeked : Option Frag
  -- how often it found nothing
  pub misses : ℕ
  -- how many fragments it has told
  pub told : ℕ

abbrev pub sender_of : RingSeat → Sender
sender_of s = record { ring = s.table_id; size = s.me.0.size; sent = s.me.0.put.sent; known = s.me.0.put.known; loads = s.me.0.put.loads }

abbrev pub receiver_of : RingSeat → Receiver
receiver_of s = record {
  ring = s.table_id;
  size = s.me.0.size;
  got = s.me.0.take.got;
  peeked = s.me.0.take.peeked;
  misses = s.me.0.take.misses;
  told = s.me.0.take.told;
}

-- The sender counts the free slots. The number told is loaded only where what is known leaves none.
pub record Counts (s t : Sender) : Type 0 where
  pub same_ring : t.ring ≡ s.ring
  pub same_size : t.size ≡ s.size
  pub by_known : length s.sent < s.known + s.size → (t.known ≡ s.known) × (t.loads ≡ s.loads)
  pub by_look : s.known + s.size ≤ length s.sent → (s.known ≤ t.known) × (t.known ≤ length s.sent) × (t.loads ≡ s.loads + 1)

-- there was room, and this fragment is put
abbrev pub SenderGains : Sender → Frag → Sender → Type 0
SenderGains s frag t = (length s.sent < 2 ^ 62) × Counts s t × (length s.sent < t.known + s.size)
    × (t.sent ≡ s.sent ++ stamped frag (epoch_at s.size (length s.sent)) 0 ∷ [])

-- one put, by what it came to
abbrev pub SenderPuts : Sender → Look → Sender → Type 0
SenderPuts s (placed frag) t = (is_ack_only frag ≡ false) × SenderGains s frag t
SenderPuts s no_room t = (length s.sent < 2 ^ 62) × Counts s t × (length s.sent ≡ t.known + s.size) × (t.loads ≡ s.loads + 1) × (t.sent ≡ s.sent)
SenderPuts s spent t = (length s.sent ≡ 2 ^ 62) × (t ≡ s)
SenderPuts s _ t = ⊥

-- whether a put would find room, by what is known
abbrev pub sender_has_room : Sender → Bool
sender_has_room s = nat_lt (length s.sent) (2 ^ 62) && nat_lt (length s.sent) (s.known + s.size)

-- the receiver that has seen this fragment, taken it, found nothing, told all that it got
abbrev pub with_seen : Receiver → Frag → Receiver
with_seen s frag = record { ring = s.ring; size = s.size; got = s.got; peeked = Some frag; misses = s.misses; told = s.told }

abbrev pub with_taken : Receiver → Frag → Receiver
with_taken s frag = record { ring = s.ring; size = s.size; got = s.got ++ frag ∷ []; peeked = None; misses = s.misses; told = s.told }

abbrev pub with_miss : Receiver → Receiver
with_miss s = record { ring = s.ring; size = s.size; got = s.got; peeked = s.peeked; misses = s.misses + 1; told = s.told }

abbrev pub with_all_told : Receiver → Receiver
with_all_told s = record { ring = s.ring; size = s.size; got = s.got; peeked = s.peeked; misses = s.misses; told = length s.got }

-- this fragment may come next: it is the one that was peeked, if one was
abbrev pub MayCome : Receiver → Frag → Type 0
MayCome s frag = (seen : Frag) → s.peeked ≡ Some seen → frag ≡ seen

-- the receiver sees this fragment and leaves it, or takes it
abbrev pub Sees : Receiver → Frag → Receiver → Type 0
Sees s frag t = MayCome s frag × (t ≡ with_seen s frag)

abbrev pub Gets : Receiver → Frag → Receiver → Type 0
Gets s frag t = MayCome s frag × (t ≡ with_taken s frag)

-- nothing was there, and nothing was peeked
abbrev pub Misses : Receiver → Receiver → Type 0
Misses s t = (s.peeked ≡ None) × (t ≡ with_miss s)

-- one look, take or tell, by what it came to
abbrev pub ReceiverTakes : Receiver → Look → Receiver → Type 0
ReceiverTakes s (saw frag) t = (first : Frag) × (look_at first ≡ saw frag) × Sees s first t
ReceiverTakes s saw_ack t = (first : Frag) × (look_at first ≡ saw_ack) × Sees s first t
ReceiverTakes s (found frag) t = (first : Frag) × (look_at first ≡ saw frag) × Gets s first t
ReceiverTakes s found_ack t = (first : Frag) × (look_at first ≡ saw_ack) × Gets s first t
ReceiverTakes s missed t = Misses s t
ReceiverTakes s told t = t ≡ with_all_told s
ReceiverTakes s _ t = ⊥

-- what the last look saw, where it saw something
abbrev pub front_seen : Option Frag → Look
front_seen None = missed
front_seen (Some frag) = look_at frag

-- the answer of a look that finds this fragment
abbrev pub sight_of : Frag → Sight
sight_of frag = if is_ack_only frag then Acknowledgement else Data frag

-- ---- several steps in a row

-- the writer that knows these payload words of the next slot
abbrev pub with_part : WriterView → List ℕ → WriterView
with_part w words = record { sent = w.sent; part = words; known = w.known; loads = w.loads }

-- the writer that has put this fragment
abbrev pub with_frag : WriterView → Frag → WriterView
with_frag w frag = record { sent = w.sent ++ frag ∷ []; part = []; known = w.known; loads = w.loads }

-- the reader that has loaded these payload words
abbrev pub with_words : ReaderView → List ℕ → ReaderView
with_words r words = record { got = r.got; part = words; last = r.last; peeked = r.peeked; misses = r.misses; told = r.told }

-- the sides of a new ring
abbrev pub new_sender : TableId → ℕ → Sender
new_sender ring n = record { ring = ring; size = n; sent = []; known = 0; loads = 0 }

abbrev pub new_receiver : TableId → ℕ → Receiver
new_receiver ring n = record { ring = ring; size = n; got = []; peeked = None; misses = 0; told = 0 }

-- ---- both sides in one hand again

-- Of one ring: what was got is a prefix of what was sent, what the sender knows was acknowledged, what was acknowledged was
-- got, and no more were sent than there are slots beyond what the sender knows.
pub record RingNear (w : Sender) (r : Receiver) : Type 0 where
  pub few : w.size ≤ 1024
  pub same_size : r.size ≡ w.size
  pub got_sent : IsPrefix r.got w.sent
  pub known_told : w.known ≤ r.told
  pub told_got : r.told ≤ length r.got
  pub sent_near : length w.sent ≤ w.known + w.size
