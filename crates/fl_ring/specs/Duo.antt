-- A ring of two directions: acknowledgements ride in the control words.
--
-- Each side puts fragments into its own way and takes those of the other. Every control word that
-- it writes tells how many fragments it has taken.
use Rattle.std.specs.Prelude.{ℕ, ◌≡◌, ◌+◌, ◌-◌, ◌*◌, ◌/◌, ◌%◌, ◌≤◌, ◌<◌, ◌^◌, ◌⊎◌, nat_le, nat_lt, ◌&&◌, Bool, true, false, if◌then◌else◌, IsTrue}
use Rattle.std.specs.Prelude.{List, [], ◌∷◌, ◌++◌, length}
use Rattle.std.specs.Int.{is_power_of_two}
use Rattle.fl_base.specs.declared.fragment.Frag.{Frag}
use Rattle.fl_base.specs.Control.{is_ack_only, stamped}
use Rattle.fl_link.specs.Cursor.{epoch_at}
use Rattle.fl_link.specs.Looks.{Look, LinkStep, placed, no_room, spent, saw, saw_ack, found, found_ack, missed, told, kept}
use Rattle.fl_link.specs.Queue.{front_of}
use Rattle.fl_ring.specs.Counts.{known_after, LastTells}
use Rattle.fl_ring.specs.Way.{WayStands}
use Rattle.fl_ring.specs.declared.one_duo.WhichSide.{WhichSide}
use Rattle.fl_ring.specs.declared.one_duo.WhichSide.TheVariants.{One, Two}

-- what contracts see of one side
pub record TheHalf : Type 0 where
  -- how many fragments it has put
  pub sent : ℕ
  -- how many of those it knows to be taken
  pub known : ℕ
  -- how many of the other side's its last control word told
  pub told : ℕ
  -- the other side's fragments that it has taken since
  pub read : List Frag
  -- the other side's fragments that it has not taken
  pub waiting : List Frag

-- a side of a new ring
abbrev pub new_half : TheHalf
new_half = record { sent = 0; known = 0; told = 0; read = []; waiting = [] }

-- what contracts see of a ring of two directions
pub record TheDuo : Type 0 where
  -- slots of each direction
  pub size : ℕ
  pub one : TheHalf
  pub two : TheHalf

-- how many slots a direction may have
abbrev pub MayHaveSlots : ℕ → Type 0
MayHaveSlots n = (3 < n) × (n ≤ 1024) × IsTrue (is_power_of_two n)

-- how many of the other side's fragments it has taken
abbrev pub got : TheHalf → ℕ
got h = h.told + length h.read

-- how many of n slots are free for a side that has put so many and knows so many to be taken
abbrev pub free : ℕ → ℕ → ℕ → ℕ
free n sent known = n + known - sent

-- whether data would find room at this side, by what it knows
abbrev pub half_has_room : ℕ → TheHalf → Bool
half_has_room n h = nat_lt h.sent (2 ^ 62) && nat_le 2 (free n h.sent h.known)

-- the count known after a look at the first fragment of the other direction
abbrev pub looked : TheHalf → ℕ
looked h = known_after h.known h.waiting

-- the count by which a write counts that needs so many slots: a look is made where too few are free
abbrev pub counts_by : ℕ → ℕ → TheHalf → ℕ
counts_by n need h = if nat_le need (free n h.sent h.known) then h.known else looked h

-- the side with another count known
abbrev pub with_known : TheHalf → ℕ → TheHalf
with_known h count = record { sent = h.sent; known = count; told = h.told; read = h.read; waiting = h.waiting }

-- the side once it has written a fragment: all that it has taken is told
abbrev pub with_written : TheHalf → TheHalf
with_written h = record { sent = h.sent + 1; known = h.known; told = got h; read = []; waiting = h.waiting }

-- the other side then: the fragment waits for it
abbrev pub with_arrived : TheHalf → Frag → TheHalf
with_arrived h frag = record { sent = h.sent; known = h.known; told = h.told; read = h.read; waiting = h.waiting ++ frag ∷ [] }

-- a side with these fragments waiting
abbrev pub with_waiting : TheHalf → List Frag → TheHalf
with_waiting h frags = record { sent = h.sent; known = h.known; told = h.told; read = h.read; waiting = frags }

-- the side once it has taken the first fragment, where these are the others
abbrev pub with_taken : TheHalf → Frag → List Frag → TheHalf
with_taken h first rest = record { sent = h.sent; known = looked h; told = h.told; read = h.read ++ first ∷ []; waiting = rest }

-- the fragment as a side writes it: with the epoch due, telling how many fragments the side has taken
abbrev pub written : ℕ → TheHalf → Frag → Frag
written n h frag = stamped frag (epoch_at n h.sent) (got h % 65536)

-- a fragment that only acknowledges: bit 2 is set and nothing else
abbrev pub acknowledgement : Frag
acknowledgement = record { words = 0 ∷ 0 ∷ 0 ∷ 0 ∷ 0 ∷ 0 ∷ 0 ∷ []; control = 4 }

-- One put at a side, by what it came to: n slots, the side from s to t, the other from p to q. Data
-- needs two free slots.
abbrev pub HalfPuts : ℕ → TheHalf → TheHalf → Look → TheHalf → TheHalf → Type 0
HalfPuts n s p (placed frag) t q = (is_ack_only frag ≡ false) × (s.sent < 2 ^ 62) × (2 ≤ free n s.sent (counts_by n 2 s))
    × (t ≡ with_written (with_known s (counts_by n 2 s))) × (q ≡ with_arrived p (written n s frag))
HalfPuts n s p no_room t q = (s.sent < 2 ^ 62) × (free n s.sent (counts_by n 2 s) < 2) × (t ≡ with_known s (counts_by n 2 s)) × (q ≡ p)
HalfPuts n s p spent t q = (s.sent ≡ 2 ^ 62) × (t ≡ s) × (q ≡ p)
HalfPuts n s p _ t q = ⊥

-- One look, take or tell at a side, by what it came to. A tell writes where at least half of the
-- slots are read and unacknowledged, and needs one free slot.
abbrev pub HalfTakes : ℕ → TheHalf → TheHalf → Look → TheHalf → TheHalf → Type 0
HalfTakes n s p (saw frag) t q = (front_of s.waiting ≡ saw frag) × (t ≡ with_known s (looked s)) × (q ≡ p)
HalfTakes n s p saw_ack t q = (front_of s.waiting ≡ saw_ack) × (t ≡ with_known s (looked s)) × (q ≡ p)
HalfTakes n s p (found frag) t q = (front_of s.waiting ≡ saw frag)
    × ((first : Frag) × (rest : List Frag) × (s.waiting ≡ first ∷ rest) × (t ≡ with_taken s first rest)) × (q ≡ p)
HalfTakes n s p found_ack t q = (front_of s.waiting ≡ saw_ack)
    × ((first : Frag) × (rest : List Frag) × (s.waiting ≡ first ∷ rest) × (t ≡ with_taken s first rest)) × (q ≡ p)
HalfTakes n s p missed t q = (s.waiting ≡ []) × (t ≡ s) × (q ≡ p)
HalfTakes n s p told t q = (n / 2 ≤ length s.read) × (s.sent < 2 ^ 62) × (1 ≤ free n s.sent (counts_by n 1 s))
    × (t ≡ with_written (with_known s (counts_by n 1 s))) × (q ≡ with_arrived p (written n s acknowledgement))
HalfTakes n s p kept t q = (length s.read < n / 2) × (t ≡ s) × (q ≡ p)
HalfTakes n s p no_room t q = (n / 2 ≤ length s.read) × (q ≡ p)
    × (((s.sent ≡ 2 ^ 62) × (t ≡ s)) ⊎ ((s.sent < 2 ^ 62) × (free n s.sent (counts_by n 1 s) < 1) × (t ≡ with_known s (counts_by n 1 s))))
HalfTakes n s p _ t q = ⊥

-- one step of a side is one of the ring
abbrev pub AtSide : (ℕ → TheHalf → TheHalf → Look → TheHalf → TheHalf → Type 0) → WhichSide → TheDuo → Look → TheDuo → Type 0
AtSide R One s look t = R s.size s.one s.two look t.one t.two × (t.size ≡ s.size)
AtSide R Two s look t = R s.size s.two s.one look t.two t.one × (t.size ≡ s.size)

-- one put at the side of this name, by what it came to
abbrev pub DuoPuts : WhichSide → TheDuo → Look → TheDuo → Type 0
DuoPuts = AtSide HalfPuts

-- one look, take or tell at the side of this name, by what it came to
abbrev pub DuoTakes : WhichSide → TheDuo → Look → TheDuo → Type 0
DuoTakes = AtSide HalfTakes

-- the side of this name
abbrev pub side_of : WhichSide → TheDuo → TheHalf
side_of One d = d.one
side_of Two d = d.two

-- the side across from it
abbrev pub across : WhichSide → TheDuo → TheHalf
across One d = d.two
across Two d = d.one

-- The law by which a 16-bit number names one count: what a side knows to be taken was told, and
-- it never puts more than n beyond that.
pub record CountsAreNear (n : ℕ) (s p : TheHalf) : Type 0 where
  pub few : n ≤ 1024
  pub known_told : s.known ≤ p.told
  pub told_sent : p.told ≤ s.sent
  pub sent_near : s.sent ≤ s.known + n
  -- every fragment that the side put was taken and told, taken, or waits
  pub all : p.told + length p.read + length p.waiting ≡ s.sent

-- ---- what a side learned by looks, forgotten

-- the ring with another count known at this side
abbrev pub knowing : WhichSide → TheDuo → ℕ → TheDuo
knowing One d count = record { size = d.size; one = with_known d.one count; two = d.two }
knowing Two d count = record { size = d.size; one = d.one; two = with_known d.two count }

-- a side of a ring of n slots each way may go back to this count: it knew it before, what it has put is within its slots
-- beyond it, and where it knows more now, a fragment waits that acknowledges as much
pub record MayForget (n : ℕ) (s : TheHalf) (count : ℕ) : Type 0 where
  pub before : count ≤ s.known
  pub sent_near : s.sent ≤ count + n
  pub none_waits : s.waiting ≡ [] → count ≡ s.known

-- a step with this label leaves the ring as it was, but for what its side knows
abbrev pub only_looks : Look → Bool
only_looks (placed frag) = false
only_looks (found frag) = false
only_looks found_ack = false
only_looks told = false
only_looks look = true

-- a step that leaves the ring so
abbrev pub DuoLooks : WhichSide → TheDuo → Look → TheDuo → Type 0
DuoLooks which s look t = (only_looks look ≡ true) × LinkStep (DuoPuts which) (DuoTakes which) s look t

-- The words of a ring of two directions: the way of side one at word 0, that of side two after it. What
-- a side has told stands in its last control word.
pub record DuoStands (words : List ℕ) (d : TheDuo) : Type 0 where
  pub wide : length words ≡ 16 * d.size
  pub forth : WayStands 0 d.size words d.two.told (d.two.read ++ d.two.waiting)
  pub back : WayStands (8 * d.size) d.size words d.one.told (d.one.read ++ d.one.waiting)
  pub one_tells : LastTells 0 d.size 0 words d.one.sent d.one.told
  pub two_tells : LastTells (8 * d.size) d.size 0 words d.two.sent d.two.told
