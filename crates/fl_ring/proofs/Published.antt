-- A way between two sides, step by step: what a single store or load by one of them may do.
use Rattle.std.proofs.Common.{ℕ, ◌≡◌, ◌<◌, ◌≤◌, ◌+◌, ◌⊎◌, inl, inr, List, [], ◌∷◌, ◌++◌, length, get_or, set, ap, subst, ◌∙◌, sym, arith}
use Rattle.std.proofs.lemmas.List.{get_or_append_left, get_or_push, length_push}
use Rattle.std.proofs.lemmas.Bool.{cases_lt}
use Rattle.fl_base.specs.declared.fragment.Frag.{Frag}
use Rattle.fl_base.specs.Control.{epoch_of}
use Rattle.fl_link.specs.Cursor.{epoch_at}
use Rattle.fl_ring.specs.Way.{slot, frag_of, epoch_in, Marked, WritesSlot, WayHolds}
use Rattle.fl_ring.proofs.Places.{slots_apart}
use Rattle.fl_ring.proofs.Ways.{kept_apart, keeps_at_word, puts_word, gains, tells, elsewhere, is_there}

-- the writer stores a payload word of the next slot
pub holds_word : (b n : ℕ) (ws : List ℕ) (sent : List Frag) (told k x : ℕ) → WayHolds b n ws sent told → length sent < told + n → k < 7
    → WayHolds b n (set ws (slot b n (length sent) + k) x) sent told
holds_word b n ws sent told k x h room small = record {
  marked = puts_word b n ws told (length sent) k x h.marked small;
  stand = λ i d le lt. h.stand i d le lt ∙ sym (keeps_at_word b n ws (length sent) i k x lt (omega arith) small);
}

-- the writer stores the control word: the fragment is put
pub holds_control : (b n : ℕ) (ws ws' : List ℕ) (sent : List Frag) (told : ℕ) (f : Frag) → WayHolds b n ws sent told → length sent < told + n
    → WritesSlot (slot b n (length sent)) f ws ws' → epoch_of f.control ≡ epoch_at n (length sent) → WayHolds b n ws' (sent ++ f ∷ []) told
holds_control b n ws ws' sent told f h room w e = record {
  marked = subst (λ (x : ℕ). Marked b n ws' told x) (sym (length_push sent f)) (gains b n ws ws' told (length sent) f h.marked room w e);
  stand = λ i d le lt. found_at i d le lt (cases_lt i (length sent));
}
  where
    found_at : (i : ℕ) (d : Frag) → told ≤ i → i < length (sent ++ f ∷ []) → (i < length sent) ⊎ (length sent ≤ i) → get_or (sent ++ f ∷ []) i d ≡ frag_of b n ws' i
    found_at i d le lt (inl before) =
        get_or_append_left sent (f ∷ []) d i before ∙ h.stand i d le before
        ∙ sym (kept_apart (slot b n (length sent)) (slot b n i) f ws ws' w (slots_apart b n i (length sent) before (omega arith)))
    found_at i d le lt (inr past) =
        let last : length sent ≡ i = omega (arith, length_push sent f) in
        get_or_push sent f d i last ∙ sym w.holds ∙ ap (λ (x : ℕ). frag_of b n ws' x) last

-- the reader tells: no word of the way changes
pub holds_told : (b n : ℕ) (ws : List ℕ) (sent : List Frag) (told t : ℕ) → WayHolds b n ws sent told → told ≤ t → t ≤ length sent → WayHolds b n ws sent t
holds_told b n ws sent told t h le most = record {
  marked = tells b n ws told t (length sent) h.marked le most;
  stand = λ i d from lt. h.stand i d (omega arith) lt;
}

-- a word outside the way changes
pub holds_elsewhere : (b n : ℕ) (ws ws' : List ℕ) (sent : List Frag) (told : ℕ) → WayHolds b n ws sent told → length ws' ≡ length ws
    → ((i : ℕ) → frag_of b n ws' i ≡ frag_of b n ws i) → WayHolds b n ws' sent told
holds_elsewhere b n ws ws' sent told h len same = record {
  marked = elsewhere b n ws ws' told (length sent) h.marked len same;
  stand = λ i d le lt. h.stand i d le lt ∙ sym (same i);
}

-- the reader loads the control word of index i and sees the epoch due: the fragment is there
pub holds_due : (b n : ℕ) (ws : List ℕ) (sent : List Frag) (told i : ℕ) (d : Frag) → WayHolds b n ws sent told → told ≤ i → i ≤ length sent → epoch_in b n ws i ≡ epoch_at n i
    → (i < length sent) × (get_or sent i d ≡ frag_of b n ws i)
holds_due b n ws sent told i d h le most due =
    let there : i < length sent = is_there b n ws told (length sent) i h.marked le most due in
    (there, h.stand i d le there)
