-- One way of a ring: slots of eight words in a table, which one side writes and the other reads.
--
-- Words are numbered from 0 in the table. Word b is the way's first, and it has n slots. Fragments
-- are numbered from 0 in the order in which they are put. The fragment of index i goes to slot
-- i mod n, its seven payload words first and its control word last, with the epoch of its round.
use Rattle.std.specs.Prelude.{ℕ, ◌≡◌, ◌≢◌, ◌+◌, ◌*◌, ◌%◌, ◌≤◌, ◌<◌, ◌⊎◌, List, length, map, slice_index, slice_index_or}
use Rattle.std.specs.List.{range_with_len}
use Rattle.fl_base.specs.declared.fragment.Frag.{Frag}
use Rattle.fl_base.specs.Control.{epoch_of}
use Rattle.fl_link.specs.Cursor.{epoch_at}

-- the first word of the slot of index i
abbrev pub slot : ℕ → ℕ → ℕ → ℕ
slot b n i = b + 8 * (i % n)

-- the fragment that the eight words from s on hold
abbrev pub frag_at : List ℕ → ℕ → Frag
frag_at words s = record { words = map (λ k. slice_index words (s + k)) (range_with_len 0 7); control = slice_index words (s + 7) }

-- the fragment that stands in the slot of index i
abbrev pub frag_of : ℕ → ℕ → List ℕ → ℕ → Frag
frag_of b n words i = frag_at words (slot b n i)

-- the epoch that stands in the slot of index i
abbrev pub epoch_in : ℕ → ℕ → List ℕ → ℕ → ℕ
epoch_in b n words i = epoch_of (slice_index words (slot b n i + 7))

-- the fragments of count indexes from i on, as they stand in their slots
abbrev pub standing : ℕ → ℕ → List ℕ → ℕ → ℕ → List Frag
standing b n words i count = map (frag_of b n words) (range_with_len i count)

-- The epochs say how far the way was written: from the number told to the number sent each slot has
-- the epoch of its index, and from there to n beyond the number told it has the other one.
pub record Marked (b n : ℕ) (words : List ℕ) (told sent : ℕ) : Type 0 where
  pub some : 0 < n
  pub wide : b + 8 * n ≤ length words
  pub order : told ≤ sent
  pub within : sent ≤ told + n
  pub full : (i : ℕ) → told ≤ i → i < sent → epoch_in b n words i ≡ epoch_at n i
  pub free : (i : ℕ) → sent ≤ i → i < told + n → epoch_in b n words i ≢ epoch_at n i

-- From this index on no fragment was ever put, so that the slots of these indexes in the first round are as a new table is: zeros.
abbrev pub IsClear : ℕ → ℕ → List ℕ → ℕ → Type 0
IsClear b n words from = (i : ℕ) → 8 * from ≤ i → i < 8 * n → slice_index words (b + i) ≡ 0

-- The words after a write into the slot at word s: that slot holds the fragment, and nothing else changed.
pub record WritesSlot (s : ℕ) (frag : Frag) (old new : List ℕ) : Type 0 where
  pub same_length : length new ≡ length old
  pub holds : frag_at new s ≡ frag
  pub others : (i : ℕ) → (i < s) ⊎ (s + 8 ≤ i) → slice_index new i ≡ slice_index old i

-- The way stands: these fragments, from the number told on, are in their slots, the epochs say so, and what was never put into is zero.
pub record WayStands (b n : ℕ) (words : List ℕ) (told : ℕ) (frags : List Frag) : Type 0 where
  pub marked : Marked b n words told (told + length frags)
  pub stand : frags ≡ standing b n words told (length frags)
  pub clear : IsClear b n words (told + length frags)

-- The way between two sides that each know only their part: of the fragments ever put, those from the
-- number told on are in their slots, and the epochs say how far the way was written.
pub record WayHolds (b n : ℕ) (words : List ℕ) (sent : List Frag) (told : ℕ) : Type 0 where
  pub marked : Marked b n words told (length sent)
  pub stand : (i : ℕ) (d : Frag) → told ≤ i → i < length sent → slice_index_or sent i d ≡ frag_of b n words i
