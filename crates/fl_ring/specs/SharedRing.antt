-- The rule of a ring over shared words, and what each kind of step tells its side.
--
-- Words 8j to 8j + 7 are slot j, and word 8n holds how many fragments were read and told. The seven words
-- after it are nobody's: they keep what is read at every step off the cache line that the reader writes when
-- it tells. One seat is the writer's and one the reader's. The steps are these, each by the seat that it names:
--
--   the writer loads the next payload word of the slot that it puts into next: it knows fewer than seven, and
--     fewer than n fragments are sent beyond those known to be told
--   the writer stores a number into a payload word of that slot: it knows each payload word before that one, and
--     fewer than n fragments are sent beyond those known to be told. Then it knows those words and this one, and none
--     behind it
--   the writer stores the control word, with the epoch due: it knows all seven payload words, the slot is free by
--     what it knows, and fewer than 2^62 fragments are sent
--   the writer loads the number told
--   the reader loads the control word of the slot that it reads next
--   the reader loads a payload word of that slot: it has seen the epoch due
--   the reader stores the number told: no more than it got, and no less than it has told
--   at the start the first seat is cut in two, and at the end the two are joined
use Rattle.std.specs.Prelude.{ℕ, ◌≡◌, ◌+◌, ◌*◌, ◌≤◌, ◌<◌, ◌^◌, true, false, List, [], length, slice_index, Some, None}
use Rattle.atomic_table.specs.Table.{State, Me, Step}
use Rattle.fl_base.specs.declared.fragment.Frag.{Frag}
use Rattle.fl_base.specs.Control.{epoch_of}
use Rattle.fl_link.specs.Cursor.{epoch_at}
use Rattle.fl_ring.specs.declared.shared.board.WriterView.{WriterView}
use Rattle.fl_ring.specs.declared.shared.board.ReaderView.{ReaderView}
use Rattle.fl_ring.specs.declared.shared.board.RingView.{RingView}
use Rattle.fl_ring.specs.Way.{slot}
use Rattle.fl_ring.specs.SharedWay.{IsDue, WayRuns, WayNear, with_found, with_stored, with_put, with_known, with_control, with_loaded, with_peeked}
use Rattle.fl_ring.specs.SharedWay.{with_got, with_told, loaded_frag}
use Rattle.fl_ring.specs.SharedTable.{Accounted}

-- ---- the rule

-- who sits where, and what the two sides know
pub record Sides : Type 0 where
  pub writer : ℕ
  pub reader : ℕ
  pub put : WriterView
  pub take : ReaderView

-- the view of the seat of this number: what it says of a side is so
abbrev pub Fits : ℕ → Sides → ℕ → RingView → Type 0
Fits n s seat v = (v.writes ≡ true → (seat ≡ s.writer) × (v.put ≡ s.put) × (v.size ≡ n))
    × (v.reads ≡ true → (seat ≡ s.reader) × (v.take ≡ s.take) × (v.size ≡ n))

-- the words: a way at word 0, and after it the number told
pub record RingHolds (n : ℕ) (words : List ℕ) (w : WriterView) (r : ReaderView) : Type 0 where
  pub wide : length words ≡ 8 * n + 8
  pub way : WayRuns 0 n words w r r.told
  pub told_is : slice_index words (8 * n) ≡ r.told

-- what holds of a ring of n slots at every moment
abbrev pub RingRule : ℕ → State (Unit {0}) RingView → Type 0
RingRule n = Accounted (Fits n) (λ words s. RingHolds n words s.put s.take)

-- ---- the views

-- what the writer knows before its first step, and the reader before its first
abbrev pub new_writing : WriterView
new_writing = record { sent = []; part = []; known = 0; loads = 0 }

abbrev pub new_reading : ReaderView
new_reading = record { got = []; part = []; last = 0; peeked = None; misses = 0; told = 0 }

-- the first seat is both sides'
abbrev pub opening_view : ℕ → RingView
opening_view n = record { size = n; writes = true; reads = true; put = new_writing; take = new_reading }

-- what is left of it for the writer, and for the reader
abbrev pub writer_of : RingView → RingView
writer_of v = record { size = v.size; writes = true; reads = false; put = v.put; take = v.take }

abbrev pub reader_of : RingView → RingView
reader_of v = record { size = v.size; writes = false; reads = true; put = v.put; take = v.take }

-- the writer's and the reader's in one, and what the other seat is left with
abbrev pub both_of : RingView → RingView → RingView
both_of v w = record { size = v.size; writes = true; reads = true; put = v.put; take = w.take }

abbrev pub nobody : RingView
nobody = record { size = 0; writes = false; reads = false; put = new_writing; take = new_reading }

-- the seat, once it knows this as the writer, or as the reader
abbrev pub with_writing : RingView → WriterView → RingView
with_writing v w = record { size = v.size; writes = v.writes; reads = v.reads; put = w; take = v.take }

abbrev pub with_reading : RingView → ReaderView → RingView
with_reading v r = record { size = v.size; writes = v.writes; reads = v.reads; put = v.put; take = r }

-- ---- which words the steps are on

-- word k of the slot that is put into next, and of the slot that is read next
abbrev pub put_word : RingView → ℕ → ℕ
put_word v k = slot 0 v.size (length v.put.sent) + k

abbrev pub take_word : RingView → ℕ → ℕ
take_word v k = slot 0 v.size (length v.take.got) + k

-- the word that holds the number told
abbrev pub told_word : RingView → ℕ
told_word v = 8 * v.size

-- fewer fragments are sent than there are slots beyond those known to be told
abbrev pub HasSlot : RingView → Type 0
HasSlot v = length v.put.sent < v.put.known + v.size

-- of the seven payload words of the slot that is put into next, which is free, this is the first that the writer doesn't know yet
abbrev pub IsNextWord : ℕ → RingView → Type 0
IsNextWord word v = (word ≡ put_word v (length v.put.part)) × (length v.put.part < 7) × HasSlot v

-- of that slot, which is free, this is payload word k of seven, and the writer knows all before it
abbrev pub IsPayloadWord : ℕ → ℕ → RingView → Type 0
IsPayloadWord word k v = (word ≡ put_word v k) × (k ≤ length v.put.part) × (k < 7) × HasSlot v

-- ---- what each step tells: of the step, the seat before, the number found or stored, the seat after;
-- which word it was, and where alone such a step is made

abbrev Player : Type 1
Player = Step (Unit {0}) → Me (Unit {0}) RingView → ℕ → Me (Unit {0}) RingView → Type 0

-- a load of the first payload word not known yet of the slot that is put into next
abbrev pub finds_word : Player
finds_word st m x m' = (m' ≡ (with_writing m.0 (with_found m.0.put x), m.1)) × IsNextWord st.word m.0

-- at the first word not known this makes the part longer by one; at a word that is known it puts this number in its place, and
-- those behind it aren't known any more
abbrev pub stores_word : Player
stores_word st m x m' = (k : ℕ) × (m' ≡ (with_writing m.0 (with_stored m.0.put k x), m.1)) × IsPayloadWord st.word k m.0

-- with the epoch due
abbrev pub stores_control : Player
stores_control st m x m' = (m' ≡ (with_writing m.0 (with_put m.0.put x), m.1))
    × (st.word ≡ put_word m.0 7) × (length m.0.put.part ≡ 7) × HasSlot m.0 × (length m.0.put.sent < 2 ^ 62)
    × (epoch_of x ≡ epoch_at m.0.size (length m.0.put.sent))

-- a load of the number told: no less than the writer knew, no more than it sent
abbrev pub loads_told : Player
loads_told st m x m' = (m' ≡ (with_writing m.0 (with_known m.0.put x), m.1))
    × (m.0.put.known ≤ x) × (x ≤ length m.0.put.sent) × (st.word ≡ told_word m.0)

-- a fragment that was peeked is still there, and this is its control word
abbrev pub loads_control : Player
loads_control st m x m' = (m' ≡ (with_reading m.0 (with_control m.0.size m.0.take x), m.1))
    × ((frag : Frag) → m.0.take.peeked ≡ Some frag → epoch_of x ≡ epoch_at m.0.size (length m.0.take.got))
    × ((frag : Frag) → m.0.take.peeked ≡ Some frag → frag.control ≡ x)
    × (st.word ≡ take_word m.0 7)

-- one of the first six
abbrev pub loads_word : Player
loads_word st m x m' = (m' ≡ (with_reading m.0 (with_loaded m.0.take x), m.1))
    × (st.word ≡ take_word m.0 (length m.0.take.part)) × (length m.0.take.part < 6) × IsDue m.0.size m.0.take

-- a fragment that was peeked is the one loaded
abbrev Again : ReaderView → ℕ → Type 0
Again r x = (frag : Frag) → r.peeked ≡ Some frag → loaded_frag r x ≡ frag

-- the seventh
abbrev Seventh : Step (Unit {0}) → RingView → Type 0
Seventh st v = (st.word ≡ take_word v 6) × (length v.take.part ≡ 6) × IsDue v.size v.take

-- a load that ends a peek: the fragment is seen, and stays
abbrev pub loads_peeked : Player
loads_peeked st m x m' = (m' ≡ (with_reading m.0 (with_peeked m.0.take x), m.1)) × Again m.0.take x × Seventh st m.0

-- a load that ends a take: the fragment is got, after fewer than 2^62 others
abbrev pub loads_taken : Player
loads_taken st m x m' = (m' ≡ (with_reading m.0 (with_got m.0.take x), m.1)) × Again m.0.take x × (length m.0.take.got < 2 ^ 62) × Seventh st m.0

-- a store of the number told: no less than was told, no more than was got
abbrev pub stores_told : Player
stores_told st m x m' = (m' ≡ (with_reading m.0 (with_told m.0.take x), m.1))
    × (st.word ≡ told_word m.0) × (m.0.take.told ≤ x) × (x ≤ length m.0.take.got)

-- nothing changes, and what the writer knows and what the reader knows go together
abbrev pub compares : Player
compares st m x m' = (m' ≡ m) × WayNear m.0.size m.0.put m.0.take
