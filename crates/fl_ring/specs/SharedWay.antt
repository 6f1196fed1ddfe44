-- One way of a ring between two threads: what each side knows, and what holds at every moment.
--
-- A side steps by single loads and stores of words. What it knows is plain data of the proofs: the
-- writer's is the fragments sent and the first payload words of the slot that it puts into next, the
-- reader's the fragments got and the payload words loaded of the next.
use Rattle.std.specs.Prelude.{ℕ, ◌≡◌, ◌+◌, ◌≤◌, ◌<◌, ◌^◌, List, [], ◌∷◌, ◌++◌, length, take, slice_index, Some, None, ◌==◌, if◌then◌else◌}
use Rattle.fl_base.specs.declared.fragment.Frag.{Frag}
use Rattle.fl_base.specs.Control.{epoch_of}
use Rattle.fl_base.specs.Prefix.{IsPrefix}
use Rattle.fl_link.specs.Cursor.{epoch_at}
use Rattle.fl_ring.specs.Way.{slot, WayHolds, IsClear}
use Rattle.fl_ring.specs.declared.shared.board.WriterView.{WriterView}
use Rattle.fl_ring.specs.declared.shared.board.ReaderView.{ReaderView}

-- of those sent, this fragment comes next after those got
abbrev pub IsNext : List Frag → List Frag → Frag → Type 0
IsNext sent got frag = IsPrefix (got ++ frag ∷ []) sent

-- the control word that was loaded last has the epoch that is due
abbrev pub IsDue : ℕ → ReaderView → Type 0
IsDue n r = epoch_of r.last ≡ epoch_at n (length r.got)

-- Of some fragment, the next, these are the first payload words and the control word.
pub record IsLoaded (sent got : List Frag) (part : List ℕ) (last : ℕ) : Type 0 where
  pub frag : Frag
  pub next : IsNext sent got frag
  pub control : frag.control ≡ last
  pub words : (k : ℕ) → k < length part → slice_index part k ≡ slice_index frag.words k

-- What holds at every moment of the way at word b with n slots, where so many fragments are told.
pub record WayRuns (b n : ℕ) (words : List ℕ) (w : WriterView) (r : ReaderView) (told : ℕ) : Type 0 where
  -- every fragment sent and not told is in its slot, and the epochs say so
  pub holds : WayHolds b n words w.sent told
  -- what was told was got, and what was got is a prefix of what was sent
  pub told_got : told ≤ length r.got
  pub got_sent : IsPrefix r.got w.sent
  -- the writer knows no more than what was told, and goes no round beyond what it knows
  pub known_told : w.known ≤ told
  pub room : length w.sent ≤ w.known + n
  pub most : length w.sent ≤ 2 ^ 62
  -- the words that the writer has found or stored are in the next slot
  pub seven : length w.part ≤ 7
  pub part : (k : ℕ) → k < length w.part → slice_index words (slot b n (length w.sent) + k) ≡ slice_index w.part k
  -- where the reader has seen the epoch due, the next fragment is there, and so is one that it peeked
  pub due : IsDue n r → length r.part < 7 → IsLoaded w.sent r.got r.part r.last
  pub peeked : (frag : Frag) → r.peeked ≡ Some frag → IsNext w.sent r.got frag
  -- in the first round all slots behind the next one are zero, and the next one where no word of it is known
  pub clear : IsClear b n words (length w.sent + 1)
  pub untouched : w.part ≡ [] → IsClear b n words (length w.sent)

-- Both sides' knowledge in one hand, of a way of n slots: what was got is a prefix of what was sent, what the writer knows
-- was acknowledged, what was acknowledged was got, and no more than n were sent beyond what the writer knows.
pub record WayNear (n : ℕ) (w : WriterView) (r : ReaderView) : Type 0 where
  pub got_sent : IsPrefix r.got w.sent
  pub known_told : w.known ≤ r.told
  pub told_got : r.told ≤ length r.got
  pub sent_near : length w.sent ≤ w.known + n

-- ---- what the steps do to a side's knowledge

-- the fragment of these payload words and this control word
abbrev pub frag_from : List ℕ → ℕ → Frag
frag_from words control = record { words = words; control = control }

-- one payload word more of the next slot is found to be this
abbrev pub with_found : WriterView → ℕ → WriterView
with_found w x = record { sent = w.sent; part = w.part ++ x ∷ []; known = w.known; loads = w.loads }

-- a number is stored at payload word k of the next slot: known are the words before it and this one
abbrev pub with_stored : WriterView → ℕ → ℕ → WriterView
with_stored w k x = record { sent = w.sent; part = take k w.part ++ x ∷ []; known = w.known; loads = w.loads }

-- a control word is stored: the fragment is put
abbrev pub with_put : WriterView → ℕ → WriterView
with_put w c = record { sent = w.sent ++ frag_from w.part c ∷ []; part = []; known = w.known; loads = w.loads }

-- so many are known to be told, after a load
abbrev pub with_known : WriterView → ℕ → WriterView
with_known w k = record { sent = w.sent; part = w.part; known = k; loads = w.loads + 1 }

-- how often nothing was found, once this control word is loaded
abbrev pub misses_after : ℕ → ReaderView → ℕ → ℕ
misses_after n r c = if epoch_of c == epoch_at n (length r.got) then r.misses else r.misses + 1

-- a control word is loaded; where it has the other epoch nothing is there
abbrev pub with_control : ℕ → ReaderView → ℕ → ReaderView
with_control n r c = record { got = r.got; part = []; last = c; peeked = r.peeked; misses = misses_after n r c; told = r.told }

-- a payload word is loaded
abbrev pub with_loaded : ReaderView → ℕ → ReaderView
with_loaded r x = record { got = r.got; part = r.part ++ x ∷ []; last = r.last; peeked = r.peeked; misses = r.misses; told = r.told }

-- the fragment whose last payload word this is
abbrev pub loaded_frag : ReaderView → ℕ → Frag
loaded_frag r x = frag_from (r.part ++ x ∷ []) r.last

-- the last payload word is loaded, of a peek
abbrev pub with_peeked : ReaderView → ℕ → ReaderView
with_peeked r x = record { got = r.got; part = r.part ++ x ∷ []; last = r.last; peeked = Some (loaded_frag r x); misses = r.misses; told = r.told }

-- the last payload word is loaded, of a take
abbrev pub with_got : ReaderView → ℕ → ReaderView
with_got r x = record { got = r.got ++ loaded_frag r x ∷ []; part = r.part ++ x ∷ []; last = r.last; peeked = None; misses = r.misses; told = r.told }

-- so many are told
abbrev pub with_told : ReaderView → ℕ → ReaderView
with_told r t = record { got = r.got; part = r.part; last = r.last; peeked = r.peeked; misses = r.misses; told = t }
