-- What keeps a way standing: a put, a tell, and writes elsewhere.
use Rattle.std.proofs.Common.{ℕ, zero, suc, ◌≡◌, ◌≢◌, ◌<◌, ◌≤◌, ◌+◌, ◌*◌, ◌%◌, ◌-◌, ◌⊎◌, inl, inr, List, [], ◌∷◌, ◌++◌, length, get_or, set, length-set, get_or-set_other, ap, subst, ◌∙◌, sym, refl, arith}
use Rattle.std.proofs.lemmas.List.FromFn.{map-range_with_len_more, length-map-range_with_len}
use Rattle.std.proofs.lemmas.Bool.{cases_lt}
use Rattle.fl_base.specs.declared.fragment.Frag.{Frag}
use Rattle.fl_base.specs.Control.{epoch_of}
use Rattle.fl_link.specs.Cursor.{epoch_at}
use Rattle.fl_ring.specs.Way.{slot, frag_at, frag_of, epoch_in, standing, Marked, WritesSlot}
use Rattle.fl_ring.proofs.Places.{slots_apart, same_slot, other_epoch}

-- ---- one slot

pub same_frag : (ws ws' : List ℕ) (s : ℕ) → ((k : ℕ) → k < 8 → get_or ws' (s + k) 0 ≡ get_or ws (s + k) 0) → frag_at ws' s ≡ frag_at ws s
same_frag ws ws' s h =
    let e0 = h 0 (omega arith) in let e1 = h 1 (omega arith) in let e2 = h 2 (omega arith) in let e3 = h 3 (omega arith) in
    let e4 = h 4 (omega arith) in let e5 = h 5 (omega arith) in let e6 = h 6 (omega arith) in let e7 = h 7 (omega arith) in
    cc

apart_below : (s r k : ℕ) → (r + 8 ≤ s) ⊎ (s + 8 ≤ r) → k < 8 → (r + k < s) ⊎ (s + 8 ≤ r + k)
apart_below s r k (inl h) lt = inl (omega arith)
apart_below s r k (inr h) lt = inr (omega arith)

-- a write into one slot leaves a slot that lies apart
pub kept_apart : (s r : ℕ) (f : Frag) (ws ws' : List ℕ) → WritesSlot s f ws ws' → (r + 8 ≤ s) ⊎ (s + 8 ≤ r) → frag_at ws' r ≡ frag_at ws r
kept_apart s r f ws ws' w apart = same_frag ws ws' r (λ k lt. w.others (r + k) (apart_below s r k apart lt))

turned : (r s : ℕ) → (r + 8 ≤ s) ⊎ (s + 8 ≤ r) → (s + 8 ≤ r) ⊎ (r + 8 ≤ s)
turned r s (inl h) = inr h
turned r s (inr h) = inl h

word_apart : (r s j k : ℕ) → (r + 8 ≤ s) ⊎ (s + 8 ≤ r) → j < 8 → k < 7 → r + j ≡ s + k → ⊥
word_apart r s j k (inl h) below small e = omega arith
word_apart r s j k (inr h) below small e = omega arith

-- ---- the fragments that stand

pub same_standing : (b n : ℕ) (ws ws' : List ℕ) (k i : ℕ) → ((j : ℕ) → i ≤ j → j < i + k → frag_of b n ws' j ≡ frag_of b n ws j) → standing b n ws' i k ≡ standing b n ws i k
same_standing b n ws ws' zero i h = refl
same_standing b n ws ws' (suc k) i h =
    let first = h i (omega arith) (omega arith) in
    let rest = same_standing b n ws ws' k (i + 1) (λ j le lt. h j (omega arith) (omega arith)) in
    cc

pub standing_more : (b n : ℕ) (ws : List ℕ) (i k j : ℕ) → i + k ≡ j → standing b n ws i (k + 1) ≡ standing b n ws i k ++ frag_of b n ws j ∷ []
standing_more b n ws i k j e = map-range_with_len_more (frag_of b n ws) i k j e

pub length-standing : (b n : ℕ) (ws : List ℕ) (i k : ℕ) → length (standing b n ws i k) ≡ k
length-standing b n ws i k = length-map-range_with_len (frag_of b n ws) i k

pub standing_join : (b n : ℕ) (ws : List ℕ) (j i k : ℕ) → standing b n ws i (j + k) ≡ standing b n ws i j ++ standing b n ws (i + j) k
standing_join b n ws zero i k =
    let none : zero + k ≡ k = omega arith in
    let here : i + zero ≡ i = omega arith in
    ap (λ (x : ℕ). standing b n ws i x) none ∙ ap (λ (x : ℕ). standing b n ws x k) (sym here)
standing_join b n ws (suc j) i k =
    let one_more : suc j + k ≡ suc (j + k) = omega arith in
    let past : i + 1 + j ≡ i + suc j = omega arith in
    ap (λ (x : ℕ). standing b n ws i x) one_more
    ∙ ap (λ (xs : List Frag). frag_of b n ws i ∷ xs) (standing_join b n ws j (i + 1) k ∙ ap (λ (x : ℕ). standing b n ws (i + 1) j ++ standing b n ws x k) past)

-- ---- the epochs

-- a fragment with its epoch is put into the next slot
pub gains : (b n : ℕ) (ws ws' : List ℕ) (told sent : ℕ) (f : Frag) → Marked b n ws told sent → sent < told + n → WritesSlot (slot b n sent) f ws ws'
    → epoch_of f.control ≡ epoch_at n sent → Marked b n ws' told (sent + 1)
gains b n ws ws' told sent f m room w e = record {
  some = m.some;
  wide = omega (arith, w.same_length, m.wide);
  order = omega (arith, m.order);
  within = omega arith;
  full = λ i le lt. full_at i le lt (cases_lt i sent);
  free = λ i le lt same. m.free i (omega arith) lt (sym (kept i (turned (slot b n sent) (slot b n i) (slots_apart b n sent i (omega arith) (omega (arith, m.order))))) ∙ same);
}
  where
    kept : (i : ℕ) → (slot b n i + 8 ≤ slot b n sent) ⊎ (slot b n sent + 8 ≤ slot b n i) → epoch_in b n ws' i ≡ epoch_in b n ws i
    kept i apart = ap (λ (g : Frag). epoch_of g.control) (kept_apart (slot b n sent) (slot b n i) f ws ws' w apart)

    full_at : (i : ℕ) → told ≤ i → i < sent + 1 → (i < sent) ⊎ (sent ≤ i) → epoch_in b n ws' i ≡ epoch_at n i
    full_at i le lt (inl before) = kept i (slots_apart b n i sent before (omega arith)) ∙ m.full i le before
    full_at i le lt (inr there) =
        let last : sent ≡ i = omega arith in
        subst (λ (x : ℕ). epoch_in b n ws' x ≡ epoch_at n x) last (ap (λ (g : Frag). epoch_of g.control) w.holds ∙ e)

-- and the fragments before it stay
pub keeps_standing : (b n : ℕ) (ws ws' : List ℕ) (sent i k : ℕ) (f : Frag) → WritesSlot (slot b n sent) f ws ws' → i + k ≤ sent → sent < i + n
    → standing b n ws' i k ≡ standing b n ws i k
keeps_standing b n ws ws' sent i k f w le lt =
    same_standing b n ws ws' k i (λ j from below. kept_apart (slot b n sent) (slot b n j) f ws ws' w (slots_apart b n j sent (omega arith) (omega arith)))

-- a payload word of the next slot is stored: the epochs stay
pub puts_word : (b n : ℕ) (ws : List ℕ) (told sent k x : ℕ) → Marked b n ws told sent → k < 7 → Marked b n (set ws (slot b n sent + k) x) told sent
puts_word b n ws told sent k x m small = record {
  some = m.some;
  wide = omega (arith, length-set ws (slot b n sent + k) x, m.wide);
  order = m.order;
  within = m.within;
  full = λ i le lt. kept i ∙ m.full i le lt;
  free = λ i le lt same. m.free i le lt (sym (kept i) ∙ same);
}
  where
    kept : (i : ℕ) → epoch_in b n (set ws (slot b n sent + k) x) i ≡ epoch_in b n ws i
    kept i =
        let p : ℕ = i % n in
        let q : ℕ = sent % n in
        let ne : b + 8 * p + 7 ≢ b + 8 * q + k = λ e. omega arith in
        ap epoch_of (get_or-set_other ws (slot b n sent + k) (slot b n i + 7) x 0 ne)

-- and so do the fragments before it
pub keeps_at_word : (b n : ℕ) (ws : List ℕ) (sent i k x : ℕ) → i < sent → sent < i + n → k < 7 → frag_of b n (set ws (slot b n sent + k) x) i ≡ frag_of b n ws i
keeps_at_word b n ws sent i k x lt near small =
    same_frag ws (set ws (slot b n sent + k) x) (slot b n i)
    (λ j below. let ne : slot b n i + j ≢ slot b n sent + k = λ e. word_apart (slot b n i) (slot b n sent) j k (slots_apart b n i sent lt near) below small e in get_or-set_other ws (slot b n sent + k) (slot b n i + j) x 0 ne)

-- more is told: those slots are free
pub tells : (b n : ℕ) (ws : List ℕ) (told t sent : ℕ) → Marked b n ws told sent → told ≤ t → t ≤ sent → Marked b n ws t sent
tells b n ws told t sent m le most = record {
  some = m.some;
  wide = m.wide;
  order = most;
  within = omega (arith, m.within);
  full = λ i from below. m.full i (omega arith) below;
  free = λ i from below. free_at i from below (cases_lt i (told + n));
}
  where
    free_at : (i : ℕ) → sent ≤ i → i < t + n → (i < told + n) ⊎ (told + n ≤ i) → epoch_in b n ws i ≢ epoch_at n i
    free_at i from below (inl near) same = m.free i from near same
    free_at i from below (inr far) same =
        let j : ℕ = i - n in
        let e : j + n ≡ i = omega arith in
        let there : epoch_in b n ws j ≡ epoch_at n j = m.full j (omega arith) (omega arith) in
        let here : epoch_in b n ws (j + n) ≡ epoch_at n (j + n) = subst (λ (x : ℕ). epoch_in b n ws x ≡ epoch_at n x) (sym e) same in
        let back : epoch_in b n ws (j + n) ≡ epoch_in b n ws j = ap (λ (x : ℕ). epoch_of (get_or ws (x + 7) 0)) (same_slot b n j) in
        other_epoch n j m.some (sym here ∙ back ∙ there)

-- the words of the way stay
pub elsewhere : (b n : ℕ) (ws ws' : List ℕ) (told sent : ℕ) → Marked b n ws told sent → length ws' ≡ length ws
    → ((i : ℕ) → frag_of b n ws' i ≡ frag_of b n ws i) → Marked b n ws' told sent
elsewhere b n ws ws' told sent m len same = record {
  some = m.some;
  wide = omega (arith, m.wide);
  order = m.order;
  within = m.within;
  full = λ i le lt. kept i ∙ m.full i le lt;
  free = λ i le lt e. m.free i le lt (sym (kept i) ∙ e);
}
  where
    kept : (i : ℕ) → epoch_in b n ws' i ≡ epoch_in b n ws i
    kept i = ap (λ (g : Frag). epoch_of g.control) (same i)

-- ---- what a look finds

-- the epoch due says that the fragment is there
pub is_there : (b n : ℕ) (ws : List ℕ) (told sent i : ℕ) → Marked b n ws told sent → told ≤ i → i ≤ sent → epoch_in b n ws i ≡ epoch_at n i → i < sent
is_there b n ws told sent i m le most due = at_end (cases_lt i sent)
  where
    at_end : (i < sent) ⊎ (sent ≤ i) → i < sent
    at_end (inl h) = h
    at_end (inr h) = full_round (cases_lt i (told + n))
      where
        full_round : (i < told + n) ⊎ (told + n ≤ i) → i < sent
        full_round (inl near) = absurd (m.free i h near due)
        full_round (inr far) =
            let e : i ≡ told + n = omega (arith, m.within) in
            let here : epoch_in b n ws (told + n) ≡ epoch_at n (told + n) = subst (λ (x : ℕ). epoch_in b n ws x ≡ epoch_at n x) e due in
            let back : epoch_in b n ws (told + n) ≡ epoch_in b n ws told = ap (λ (x : ℕ). epoch_of (get_or ws (x + 7) 0)) (same_slot b n told) in
            absurd (other_epoch n told m.some (sym here ∙ back ∙ m.full told (omega arith) (omega (arith, m.some))))

-- the other epoch says that there is none
pub is_end : (b n : ℕ) (ws : List ℕ) (told sent i : ℕ) → Marked b n ws told sent → told ≤ i → i ≤ sent → epoch_in b n ws i ≢ epoch_at n i → i ≡ sent
is_end b n ws told sent i m le most other = at_end (cases_lt i sent)
  where
    at_end : (i < sent) ⊎ (sent ≤ i) → i ≡ sent
    at_end (inl h) = absurd (other (m.full i le h))
    at_end (inr h) = omega arith
