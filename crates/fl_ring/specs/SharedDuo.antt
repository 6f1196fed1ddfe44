-- The rule of a ring of two directions over shared words, and what each kind of step tells its side.
--
-- Words 0 to 8n - 1 are the way that side one writes and side two reads, and the next 8n words the
-- way back. There is no word for the number told: bits 48 to 63 of every control word say how many
-- fragments its writer had got, modulo 65,536. The steps are these, each by the seat of its side:
--
--   the next payload word of the slot that is put into next is loaded: the side knows fewer than
--     seven, and fewer than n fragments are sent beyond those known to be told
--   a number is stored into a payload word of that slot: the side knows each payload word before that
--     one, and fewer than n fragments are sent beyond those known to be told. Then it knows those words
--     and this one, and none behind it
--   a control word is stored, with the epoch due and the number got: the side knows all seven
--     payload words, the slot is free by what it knows, and fewer than 2^62 fragments are sent. It
--     tells all that the side got
--   the control word of the slot that is read next is loaded. Where it has the epoch due, the side
--     knows the count that its number names; else it knows what it knew
--   a payload word of that slot is loaded: the epoch due was seen
--   at the start the first seat is cut in two, and at the end the two are joined
use Rattle.std.specs.Prelude.{ℕ, ◌≡◌, ◌+◌, ◌*◌, ◌/◌, ◌%◌, ◌≤◌, ◌<◌, ◌^◌, ◌⊎◌, ◌==◌, if◌then◌else◌, List, [], ◌++◌, length, replicate, Some, None}
use Rattle.atomic_table.specs.Table.{State, Me, Step}
use Rattle.fl_base.specs.declared.fragment.Frag.{Frag}
use Rattle.fl_base.specs.Control.{epoch_of, told_of}
use Rattle.fl_base.specs.Prefix.{IsPrefix}
use Rattle.fl_link.specs.Cursor.{epoch_at}
use Rattle.fl_ring.specs.Counts.{count_from, last_count, LastTells}
use Rattle.fl_ring.specs.Way.{slot}
use Rattle.fl_ring.specs.declared.shared.board.WriterView.{WriterView}
use Rattle.fl_ring.specs.declared.shared.board.ReaderView.{ReaderView}
use Rattle.fl_ring.specs.declared.shared.duo_board.SideView.{SideView}
use Rattle.fl_ring.specs.declared.shared.duo_board.SeatHolder.{SeatHolder}
use Rattle.fl_ring.specs.declared.shared.duo_board.SeatHolder.TheVariants.{One, Two, Both, Nobody}
use Rattle.fl_ring.specs.declared.shared.duo_board.DuoView.{DuoView}
use Rattle.fl_ring.specs.SharedWay.{IsDue, WayRuns, with_found, with_stored, with_put, with_control, with_loaded, with_peeked, with_got, with_told, loaded_frag}
use Rattle.fl_ring.specs.SharedTable.{Accounted}

-- ---- the rule

-- Some fragments sent are not got yet. A side that knew so many to be told knows all that was told
-- once it has read the numbers of those.
pub record NumbersRide (sent got : List Frag) (known told : ℕ) : Type 0 where
  pub waiting : List Frag
  pub split : sent ≡ got ++ waiting
  pub counts : last_count known waiting ≡ told

-- the control word that was loaded last tells nothing new, where it has the epoch due
abbrev pub KnowsLast : ℕ → SideView → Type 0
KnowsLast n s = IsDue n s.take → length s.take.part < 7 → count_from s.put.known (told_of s.take.last) ≡ s.put.known

-- the ways of a ring of two directions
pub record DuoLayout : Type 0 where
  -- the first word of the way there, and of the way back
  pub there : ℕ
  pub back : ℕ
  -- slots of each
  pub size : ℕ
  -- how many fragments had passed each way at the start
  pub start : ℕ

abbrev pub ways : ℕ → ℕ → ℕ → ℕ → DuoLayout
ways there back size start = record { there = there; back = back; size = size; start = start }

-- Side x writes the way there and reads the way back, and side y the other way round.
pub record BothRun (w : DuoLayout) (words : List ℕ) (x y : SideView) : Type 0 where
  pub few : w.size ≤ 1024
  pub apart : (w.there + 8 * w.size ≤ w.back) ⊎ (w.back + 8 * w.size ≤ w.there)
  pub there : WayRuns w.there w.size words x.put y.take y.take.told
  pub back : WayRuns w.back w.size words y.put x.take x.take.told
  -- what x has told rides in its fragments that y has not got, and the other way round
  pub told_there : NumbersRide x.put.sent y.take.got y.put.known x.take.told
  pub told_back : NumbersRide y.put.sent x.take.got x.put.known y.take.told
  pub last_there : KnowsLast w.size x
  pub last_back : KnowsLast w.size y
  -- and stands in its last control word
  pub word_there : LastTells w.there w.size w.start words (length x.put.sent) x.take.told
  pub word_back : LastTells w.back w.size w.start words (length y.put.sent) y.take.told

-- who sits where, and what the two sides know
pub record Pairing : Type 0 where
  pub first : ℕ
  pub second : ℕ
  pub one : SideView
  pub two : SideView

-- the view of the seat of this number: what it says of a side is so
abbrev pub DuoFits : ℕ → Pairing → ℕ → DuoView → Type 0
DuoFits n p seat v = (v.holder ≡ One → (seat ≡ p.first) × (v.mine ≡ p.one) × (v.size ≡ n))
    × (v.holder ≡ Two → (seat ≡ p.second) × (v.mine ≡ p.two) × (v.size ≡ n))
    × (v.holder ≡ Both → (seat ≡ p.first) × (seat ≡ p.second) × (v.mine ≡ p.one) × (v.theirs ≡ p.two) × (v.size ≡ n))

-- what holds of a ring of two directions, of n slots each, at every moment since the start
abbrev pub DuoHolds : ℕ → ℕ → State (Unit {0}) DuoView → Type 0
DuoHolds n start = Accounted (DuoFits n) (λ words p. BothRun (ways 0 (8 * n) n start) words p.one p.two)

-- ---- the views

-- a fragment whose eight words are 0: it stands for one that passed before the start
abbrev pub blank : Frag
blank = record { words = replicate 7 0; control = 0 }

-- a side of a ring through which so many blank fragments have passed each way, all told; its last
-- control word has the epoch of the round before
abbrev pub new_side : ℕ → ℕ → SideView
new_side n start = record {
  put = record { sent = replicate start blank; part = []; known = start; loads = 0 };
  take = record { got = replicate start blank; part = []; last = start / n; peeked = None; misses = 0; told = start };
}

-- the first seat holds both sides
abbrev pub duo_opening : ℕ → ℕ → DuoView
duo_opening n start = record { size = n; holder = Both; mine = new_side n start; theirs = new_side n start }

-- what is left of it for side one, and for side two, each with its own side as `mine`
abbrev pub side_one_of : DuoView → DuoView
side_one_of v = record { size = v.size; holder = One; mine = v.mine; theirs = v.theirs }

abbrev pub side_two_of : DuoView → DuoView
side_two_of v = record { size = v.size; holder = Two; mine = v.theirs; theirs = v.mine }

-- two seats, in whichever order their sides are
abbrev pub both_as : SeatHolder → DuoView → DuoView → DuoView
both_as One v w = record { size = v.size; holder = Both; mine = v.mine; theirs = w.mine }
both_as _ v w = record { size = v.size; holder = Both; mine = w.mine; theirs = v.mine }

-- two seats joined, by the side that the first of them holds
abbrev pub duo_both_of : DuoView → DuoView → DuoView
duo_both_of v w = both_as v.holder v w

-- what the other seat is left with: it holds no side
abbrev pub duo_nobody : DuoView
duo_nobody = record { size = 0; holder = Nobody; mine = new_side 0 0; theirs = new_side 0 0 }

-- the seat, once its own side knows this
abbrev pub with_mine : DuoView → SideView → DuoView
with_mine v s = record { size = v.size; holder = v.holder; mine = s; theirs = v.theirs }

-- ---- what the steps do to a side's knowledge

-- one payload word more of the next slot is found to be this
abbrev pub side_found : SideView → ℕ → SideView
side_found s x = record { put = with_found s.put x; take = s.take }

-- a number is stored at payload word k of the next slot: known are the words before it and this one
abbrev pub side_stored : SideView → ℕ → ℕ → SideView
side_stored s k x = record { put = with_stored s.put k x; take = s.take }

-- the fragment is put, and all that was got is told
abbrev pub side_put : SideView → ℕ → SideView
side_put s c = record { put = with_put s.put c; take = with_told s.take (length s.take.got) }

-- the count known after a look that loads this control word
abbrev pub known_by : ℕ → SideView → ℕ → ℕ
known_by n s c = if epoch_of c == epoch_at n (length s.take.got) then count_from s.put.known (told_of c) else s.put.known

-- what it knows as a writer then: that count, and one load more
abbrev pub counted_by : ℕ → SideView → ℕ → WriterView
counted_by n s c = record { sent = s.put.sent; part = s.put.part; known = known_by n s c; loads = s.put.loads + 1 }

-- a control word of the other direction is loaded: it may tell a count, and that a fragment is there
abbrev pub side_control : ℕ → SideView → ℕ → SideView
side_control n s c = record { put = counted_by n s c; take = with_control n s.take c }

-- a payload word is loaded: one of the first six; the seventh, of a peek; the seventh, of a take
abbrev pub side_loaded : SideView → ℕ → SideView
side_loaded s x = record { put = s.put; take = with_loaded s.take x }

abbrev pub side_peeked : SideView → ℕ → SideView
side_peeked s x = record { put = s.put; take = with_peeked s.take x }

abbrev pub side_got : SideView → ℕ → SideView
side_got s x = record { put = s.put; take = with_got s.take x }

-- ---- where a side's ways begin

-- the seat is one side's
abbrev pub IsOneSide : SeatHolder → Type 0
IsOneSide h = (h ≡ One) ⊎ (h ≡ Two)

-- the first word of the slots that a side writes, of n slots each way, and of those that it reads
abbrev pub base_of : SeatHolder → ℕ → ℕ
base_of One n = 0
base_of _ n = 8 * n

abbrev pub other_of : SeatHolder → ℕ → ℕ
other_of One n = 8 * n
other_of _ n = 0

-- word k of the slot that a side puts into next, and of the slot that it takes from next
abbrev pub put_word : DuoView → ℕ → ℕ
put_word v k = slot (base_of v.holder v.size) v.size (length v.mine.put.sent) + k

abbrev pub take_word : DuoView → ℕ → ℕ
take_word v k = slot (other_of v.holder v.size) v.size (length v.mine.take.got) + k

-- fewer fragments are sent than there are slots beyond those known to be told
abbrev pub HasSlot : DuoView → Type 0
HasSlot v = length v.mine.put.sent < v.mine.put.known + v.size

-- of the seven payload words of the slot that is put into next, which is free, this is the first that the side doesn't know yet
abbrev pub IsNextWord : ℕ → DuoView → Type 0
IsNextWord word v = (word ≡ put_word v (length v.mine.put.part)) × (length v.mine.put.part < 7) × HasSlot v

-- of that slot, which is free, this is payload word k of seven, and the side knows all before it
abbrev pub IsPayloadWord : ℕ → ℕ → DuoView → Type 0
IsPayloadWord word k v = (word ≡ put_word v k) × (k ≤ length v.mine.put.part) × (k < 7) × HasSlot v

-- ---- what each step tells: of the step, the seat before, the number found or stored, the seat after;
-- which word it was, and where alone such a step is made

abbrev DuoPlayer : Type 1
DuoPlayer = Step (Unit {0}) → Me (Unit {0}) DuoView → ℕ → Me (Unit {0}) DuoView → Type 0

-- a load of the first payload word not known yet of the slot that is put into next
abbrev pub duo_finds_word : DuoPlayer
duo_finds_word st m x m' = (m' ≡ (with_mine m.0 (side_found m.0.mine x), m.1)) × IsNextWord st.word m.0

-- at the first word not known this makes the part longer by one; at a word that is known it puts this number in its place, and
-- those behind it aren't known any more
abbrev pub duo_stores_word : DuoPlayer
duo_stores_word st m x m' = (k : ℕ) × (m' ≡ (with_mine m.0 (side_stored m.0.mine k x), m.1)) × IsPayloadWord st.word k m.0

-- with the epoch due, and the number of all that was got
abbrev pub duo_stores_control : DuoPlayer
duo_stores_control st m x m' = (m' ≡ (with_mine m.0 (side_put m.0.mine x), m.1))
    × (st.word ≡ put_word m.0 7) × (length m.0.mine.put.part ≡ 7) × HasSlot m.0 × (length m.0.mine.put.sent < 2 ^ 62)
    × (epoch_of x ≡ epoch_at m.0.size (length m.0.mine.put.sent)) × (told_of x ≡ length m.0.mine.take.got % 65536)

-- this is the control word of the fragment that was peeked, if one was
abbrev pub IsPeekedControl : ReaderView → ℕ → Type 0
IsPeekedControl r x = (frag : Frag) → r.peeked ≡ Some frag → frag.control ≡ x

-- a fragment that was peeked is still there, and what is known was sent
abbrev pub duo_loads_control : DuoPlayer
duo_loads_control st m x m' = (m' ≡ (with_mine m.0 (side_control m.0.size m.0.mine x), m.1))
    × ((frag : Frag) → m.0.mine.take.peeked ≡ Some frag → epoch_of x ≡ epoch_at m.0.size (length m.0.mine.take.got))
    × IsPeekedControl m.0.mine.take x
    × (known_by m.0.size m.0.mine x ≤ length m.0.mine.put.sent)
    × (st.word ≡ take_word m.0 7)

-- one of the first six
abbrev pub duo_loads_word : DuoPlayer
duo_loads_word st m x m' = (m' ≡ (with_mine m.0 (side_loaded m.0.mine x), m.1))
    × (st.word ≡ take_word m.0 (length m.0.mine.take.part)) × (length m.0.mine.take.part < 6) × IsDue m.0.size m.0.mine.take

-- a fragment that was peeked is the one loaded
abbrev DuoAgain : ReaderView → ℕ → Type 0
DuoAgain r x = (frag : Frag) → r.peeked ≡ Some frag → loaded_frag r x ≡ frag

-- the seventh
abbrev DuoSeventh : Step (Unit {0}) → DuoView → Type 0
DuoSeventh st v = (st.word ≡ take_word v 6) × (length v.mine.take.part ≡ 6) × IsDue v.size v.mine.take

-- a load that ends a peek: the fragment is seen, and stays
abbrev pub duo_loads_peeked : DuoPlayer
duo_loads_peeked st m x m' = (m' ≡ (with_mine m.0 (side_peeked m.0.mine x), m.1)) × DuoAgain m.0.mine.take x × DuoSeventh st m.0

-- a load that ends a take: the fragment is got, after fewer than 2^62 others
abbrev pub duo_loads_taken : DuoPlayer
duo_loads_taken st m x m' = (m' ≡ (with_mine m.0 (side_got m.0.mine x), m.1))
    × DuoAgain m.0.mine.take x × (length m.0.mine.take.got < 2 ^ 62) × DuoSeventh st m.0

-- The law by which a 16-bit number names one count, of the fragments that a side w sent and a side r
-- got: what w knows was told, what was told was got, and what was got was sent, no more than n beyond.
pub record CountsNear (n : ℕ) (w r : SideView) : Type 0 where
  pub few : n ≤ 1024
  pub got_sent : IsPrefix r.take.got w.put.sent
  pub known_told : w.put.known ≤ r.take.told
  pub told_got : r.take.told ≤ length r.take.got
  pub sent_near : length w.put.sent ≤ w.put.known + n

-- nothing changes, and the counts of the two sides are near, both ways
abbrev pub duo_compares : DuoPlayer
duo_compares st m x m' = (m' ≡ m) × CountsNear m.0.size m.0.mine m.0.theirs × CountsNear m.0.size m.0.theirs m.0.mine
