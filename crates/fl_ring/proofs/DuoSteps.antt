-- The steps of a side of a ring of two directions.
use Rattle.std.proofs.Common.{ℕ, ◌≡◌, ◌<◌, ◌≤◌, ◌+◌, ◌*◌, ◌%◌, ◌-◌, ◌^◌, ◌⊎◌, inl, inr, List, [], ◌∷◌, ◌++◌, length, ap, ◌∙◌, sym, refl, arith}
use Rattle.fl_base.specs.declared.fragment.Frag.{Frag}
use Rattle.fl_base.specs.Control.{epoch_of, told_of}
use Rattle.fl_link.specs.Cursor.{TheCursor, epoch_at}
use Rattle.fl_ring.specs.Way.{slot, frag_of, standing, WritesSlot}
use Rattle.fl_ring.specs.Counts.{count_from, known_after, last_count}
use Rattle.fl_ring.specs.Duo.{TheHalf, with_written, with_arrived, with_taken, looked, MayForget}
use Rattle.fl_ring.specs.Halves.{Direction, InStep, half_of}
use Rattle.fl_ring.specs.declared.halves.DuoHalf.{DuoHalf}
use Rattle.fl_ring.proofs.Places.{slot_within}
use Rattle.fl_ring.proofs.Clear.{clear_put, clear_across}
use Rattle.fl_ring.proofs.Ways.{standing_more, keeps_standing, same_standing, kept_apart, length-standing, gains, tells, elsewhere}
use Rattle.fl_ring.proofs.RingSteps.{standing_first, standing_none}
use Rattle.fl_ring.proofs.Tells.{tells_kept, tells_put}
use Rattle.fl_ring.proofs.Numbers.{count_named, last_rises, last_push, after_rises, last_after, forgets}

-- ---- from either side

swapped : (x y z : ℕ) → ((x ≡ 0) × (y ≡ z)) ⊎ ((x ≡ z) × (y ≡ 0)) → ((y ≡ 0) × (x ≡ z)) ⊎ ((y ≡ z) × (x ≡ 0))
swapped x y z (inl (e, d)) = inr (d, e)
swapped x y z (inr (e, d)) = inl (d, e)

pub turned : (n : ℕ) (ws : List ℕ) (a b : DuoHalf) → InStep n ws a b → InStep n ws b a
turned n ws a b s = record {
  few = s.few;
  wide = s.wide;
  apart = swapped a.base b.base (8 * n) s.apart;
  there = s.back;
  back = s.there;
}

-- ---- a count becomes known

with_count : DuoHalf → ℕ → DuoHalf
with_count a k = record a { known = k }

-- where the count is that of a look at the first fragment
pub known_steps : (n : ℕ) (ws : List ℕ) (a b : DuoHalf) (k : ℕ) → InStep n ws a b → k ≡ known_after a.known (half_of n ws a b).waiting → InStep n ws (record a { known = k }) b
known_steps n ws a b k s e = record {
  few = s.few;
  wide = s.wide;
  apart = s.apart;
  there = record {
    from = s.there.from;
    put_size = s.there.put_size;
    take_size = s.there.take_size;
    marked = s.there.marked;
    told_taken = s.there.told_taken;
    taken_sent = s.there.taken_sent;
    most = s.there.most;
    room = omega (arith, s.there.room, e, after_rises a.known (half_of n ws a b).waiting);
    counts = ap (λ (x : ℕ). last_count x (half_of n ws a b).waiting) e ∙ last_after a.known (half_of n ws a b).waiting ∙ s.there.counts;
    last = s.there.last;
    clear = s.there.clear;
  };
  back = record {
    from = s.back.from;
    put_size = s.back.put_size;
    take_size = s.back.take_size;
    marked = s.back.marked;
    told_taken = s.back.told_taken;
    taken_sent = s.back.taken_sent;
    most = s.back.most;
    room = s.back.room;
    counts = s.back.counts;
    last = s.back.last;
    clear = s.back.clear;
  };
}

-- back to a count that was known before
pub forget_steps : (n : ℕ) (ws : List ℕ) (a b : DuoHalf) (k : ℕ) → InStep n ws a b → MayForget n (half_of n ws a b) k → InStep n ws (record a { known = k }) b
forget_steps n ws a b k s before = record {
  few = s.few;
  wide = s.wide;
  apart = s.apart;
  there = record {
    from = s.there.from;
    put_size = s.there.put_size;
    take_size = s.there.take_size;
    marked = s.there.marked;
    told_taken = s.there.told_taken;
    taken_sent = s.there.taken_sent;
    most = s.there.most;
    room = before.sent_near;
    counts = forgets k a.known b.told (half_of n ws a b).waiting before.before (omega (arith, s.there.told_taken, s.there.taken_sent, before.sent_near, s.few)) before.none_waits s.there.counts;
    last = s.there.last;
    clear = s.there.clear;
  };
  back = record {
    from = s.back.from;
    put_size = s.back.put_size;
    take_size = s.back.take_size;
    marked = s.back.marked;
    told_taken = s.back.told_taken;
    taken_sent = s.back.taken_sent;
    most = s.back.most;
    room = s.back.room;
    counts = s.back.counts;
    last = s.back.last;
    clear = s.back.clear;
  };
}

-- ---- the first fragment is taken

-- its count is known already
pub take_steps : (n : ℕ) (ws : List ℕ) (a b : DuoHalf) (p : TheCursor) → InStep n ws a b → a.take.index < b.put.index → a.known ≡ known_after a.known (half_of n ws a b).waiting
    → p ≡ record { index = a.take.index + 1; size = a.take.size } → InStep n ws (record a { take = p }) b
take_steps n ws a b p s lt looked_at e = record {
  few = s.few;
  wide = s.wide;
  apart = s.apart;
  there = record {
    from = s.there.from;
    put_size = s.there.put_size;
    take_size = s.there.take_size;
    marked = s.there.marked;
    told_taken = s.there.told_taken;
    taken_sent = s.there.taken_sent;
    most = s.there.most;
    room = s.there.room;
    counts = ap (λ (q : TheCursor). last_count a.known (standing b.base n ws q.index (b.put.index - q.index))) e ∙ rest_counts;
    last = s.there.last;
    clear = s.there.clear;
  };
  back = record {
    from = s.back.from;
    put_size = s.back.put_size;
    take_size = ap (λ (q : TheCursor). q.size) e ∙ s.back.take_size;
    marked = s.back.marked;
    told_taken = omega (arith, s.back.told_taken, next);
    taken_sent = omega (arith, next);
    most = s.back.most;
    room = s.back.room;
    counts = s.back.counts;
    last = s.back.last;
    clear = s.back.clear;
  };
}
  where
    next : p.index ≡ a.take.index + 1
    next = ap (λ (q : TheCursor). q.index) e

    first : Frag
    first = frag_of b.base n ws a.take.index

    rest : List Frag
    rest = standing b.base n ws (a.take.index + 1) (b.put.index - (a.take.index + 1))

    stands : (half_of n ws a b).waiting ≡ first ∷ rest
    stands = standing_first b.base n ws a.take.index b.put.index lt

    known_is : a.known ≡ count_from a.known (told_of first.control)
    known_is = looked_at ∙ ap (λ (xs : List Frag). known_after a.known xs) stands

    rest_counts : last_count a.known rest ≡ b.told
    rest_counts = ap (λ (k : ℕ). last_count k rest) known_is ∙ ap (λ (xs : List Frag). last_count a.known xs) (sym stands) ∙ s.there.counts

-- ---- a fragment is written

ways_apart : (n x y i j : ℕ) → 0 < n → ((x ≡ 0) × (y ≡ 8 * n)) ⊎ ((x ≡ 8 * n) × (y ≡ 0)) → (slot y n j + 8 ≤ slot x n i) ⊎ (slot x n i + 8 ≤ slot y n j)
ways_apart n x y i j p (inl (e, d)) = inr (omega (arith, slot_within x n i p))
ways_apart n x y i j p (inr (e, d)) = inl (omega (arith, slot_within y n j p))

-- the other way's slots stay
pub other_stays : (n : ℕ) (ws ws' : List ℕ) (a b : DuoHalf) (f : Frag) → InStep n ws a b → WritesSlot (slot a.base n a.put.index) f ws ws'
    → (j : ℕ) → frag_of b.base n ws' j ≡ frag_of b.base n ws j
other_stays n ws ws' a b f s w j = kept_apart (slot a.base n a.put.index) (slot b.base n j) f ws ws' w (ways_apart n a.base b.base a.put.index j s.there.marked.some s.apart)

-- what is known was told
pub known_told : (n : ℕ) (ws : List ℕ) (w r : DuoHalf) → Direction n ws w r → w.known ≤ r.told
known_told n ws w r d = omega (arith, d.counts, last_rises w.known (standing r.base n ws w.take.index (r.put.index - w.take.index)))

-- the next index of a cursor
abbrev pub next_of : TheCursor → TheCursor
next_of p = record { index = p.index + 1; size = p.size }

-- the side that wrote: its next index, and all that it has taken told
abbrev pub wrote : DuoHalf → DuoHalf
wrote a = record { base = a.base; other = a.other; put = next_of a.put; take = a.take; known = a.known; told = a.take.index }

-- what waits for the other side then
pub arrives : (n : ℕ) (ws ws' : List ℕ) (a b : DuoHalf) (f : Frag) → InStep n ws a b → a.put.index + 1 ≤ a.known + n → WritesSlot (slot a.base n a.put.index) f ws ws'
    → standing a.base n ws' b.take.index (a.put.index + 1 - b.take.index) ≡ standing a.base n ws b.take.index (a.put.index - b.take.index) ++ f ∷ []
arrives n ws ws' a b f s room w =
    let sent : ℕ = a.put.index in
    let taken : ℕ = b.take.index in
    let order : taken ≤ sent = s.there.taken_sent in
    let count : sent + 1 - taken ≡ (sent - taken) + 1 = omega arith in
    let last : taken + (sent - taken) ≡ sent = omega arith in
    let near : sent < taken + n = omega (arith, known_told n ws a b s.there, s.there.told_taken) in
    ap (λ (k : ℕ). standing a.base n ws' taken k) count
    ∙ standing_more a.base n ws' taken (sent - taken) sent last
    ∙ ap (λ (xs : List Frag). xs ++ frag_of a.base n ws' sent ∷ []) (keeps_standing a.base n ws ws' sent taken (sent - taken) f w (omega arith) near)
    ∙ ap (λ (g : Frag). standing a.base n ws taken (sent - taken) ++ g ∷ []) w.holds

pub write_steps : (n : ℕ) (ws ws' : List ℕ) (a b : DuoHalf) (f : Frag) → InStep n ws a b → a.put.index < 2 ^ 62 → a.put.index + 1 ≤ a.known + n
    → WritesSlot (slot a.base n a.put.index) f ws ws' → epoch_of f.control ≡ epoch_at n a.put.index → told_of f.control ≡ a.take.index % 65536
    → InStep n ws' (wrote a) b
write_steps n ws ws' a b f s unspent room w turn number = record {
  few = s.few;
  wide = w.same_length ∙ s.wide;
  apart = s.apart;
  there = record {
    from = s.there.from;
    put_size = s.there.put_size;
    take_size = s.there.take_size;
    marked = gains a.base n ws ws' b.told a.put.index f s.there.marked (omega (arith, known_told n ws a b s.there)) w turn;
    told_taken = s.there.told_taken;
    taken_sent = omega (arith, s.there.taken_sent);
    most = omega arith;
    room = room;
    counts = ap (λ (xs : List Frag). last_count a.known xs) (same_standing b.base n ws ws' (b.put.index - a.take.index) a.take.index (λ j _ _. stays j)) ∙ s.there.counts;
    last = tells_put a.base n 0 ws' a.put.index (a.put.index + 1) a.take.index f.control (omega arith) refl (ap (λ (g : Frag). g.control) w.holds) number;
    clear = clear_put a.base n a.put.index f ws ws' s.there.clear w;
  };
  back = record {
    from = s.back.from;
    put_size = s.back.put_size;
    take_size = s.back.take_size;
    marked = elsewhere b.base n ws ws' a.take.index b.put.index (tells b.base n ws a.told a.take.index b.put.index s.back.marked s.back.told_taken s.back.taken_sent) w.same_length stays;
    told_taken = omega arith;
    taken_sent = s.back.taken_sent;
    most = s.back.most;
    room = s.back.room;
    counts =
        ap (λ (xs : List Frag). last_count b.known xs) (arrives n ws ws' a b f s room w)
        ∙ last_push b.known (standing a.base n ws b.take.index (a.put.index - b.take.index)) f
        ∙ ap (λ (k : ℕ). count_from k (told_of f.control)) s.back.counts
        ∙ ap (λ (k : ℕ). count_from a.told k) number
        ∙ count_named a.told a.take.index s.back.told_taken near;
    last = tells_kept b.base n 0 ws ws' b.put.index b.told s.back.last (λ j. ap (λ (g : Frag). g.control) (stays j));
    clear = clear_across n a.base b.base a.put.index b.put.index f ws ws' s.there.marked.some s.apart w s.back.clear;
  };
}
  where
    stays : (j : ℕ) → frag_of b.base n ws' j ≡ frag_of b.base n ws j
    stays = other_stays n ws ws' a b f s w

    near : a.take.index < a.told + 65536
    near = omega (arith, s.few, s.back.taken_sent, s.back.room, known_told n ws b a s.back)

-- ---- what the words show

same_half : (sent known told sent' known' told' : ℕ) (read read' waiting waiting' : List Frag) → sent ≡ sent' → known ≡ known' → told ≡ told' → read ≡ read' → waiting ≡ waiting'
    → (let h : TheHalf = record { sent = sent; known = known; told = told; read = read; waiting = waiting } in h) ≡ record { sent = sent'; known = known'; told = told'; read = read'; waiting = waiting' }
same_half sent known told sent' known' told' read read' waiting waiting' e f g h i = cc

-- the number taken
pub got_is : (n : ℕ) (ws : List ℕ) (a b : DuoHalf) → InStep n ws a b → a.told + length (half_of n ws a b).read ≡ a.take.index
got_is n ws a b s = omega (arith, length-standing b.base n ws a.told (a.take.index - a.told), s.back.told_taken)

-- the side that wrote
pub written_half : (n : ℕ) (ws ws' : List ℕ) (a b : DuoHalf) (f : Frag) → InStep n ws a b → WritesSlot (slot a.base n a.put.index) f ws ws'
    → half_of n ws' (wrote a) b ≡ with_written (half_of n ws a b)
written_half n ws ws' a b f s w =
    same_half (a.put.index + 1) a.known a.take.index (a.put.index + 1) a.known (a.told + length (half_of n ws a b).read)
    (standing b.base n ws' a.take.index (a.take.index - a.take.index)) []
    (standing b.base n ws' a.take.index (b.put.index - a.take.index)) (half_of n ws a b).waiting
    refl refl (sym (got_is n ws a b s)) (standing_none b.base n ws' a.take.index a.take.index refl)
    (same_standing b.base n ws ws' (b.put.index - a.take.index) a.take.index (λ j _ _. other_stays n ws ws' a b f s w j))

-- and the other
pub arrived_half : (n : ℕ) (ws ws' : List ℕ) (a b : DuoHalf) (f : Frag) → InStep n ws a b → a.put.index + 1 ≤ a.known + n → WritesSlot (slot a.base n a.put.index) f ws ws'
    → half_of n ws' b (wrote a) ≡ with_arrived (half_of n ws b a) f
arrived_half n ws ws' a b f s room w =
    let near : a.put.index < b.told + n = omega (arith, known_told n ws a b s.there) in
    same_half b.put.index b.known b.told b.put.index b.known b.told
    (standing a.base n ws' b.told (b.take.index - b.told)) (half_of n ws b a).read
    (standing a.base n ws' b.take.index (a.put.index + 1 - b.take.index)) ((half_of n ws b a).waiting ++ f ∷ [])
    refl refl refl (keeps_standing a.base n ws ws' a.put.index b.told (b.take.index - b.told) f w (omega (arith, s.there.told_taken, s.there.taken_sent)) near)
    (arrives n ws ws' a b f s room w)

same_front : (f g : Frag) (xs ys : List Frag) → f ∷ xs ≡ g ∷ ys → (f ≡ g) × (xs ≡ ys)
same_front f g xs ys e = (cc, cc)

-- where a fragment waits, one is put that isn't taken
pub waits : (n : ℕ) (ws : List ℕ) (a b : DuoHalf) (first : Frag) (rest : List Frag) → (half_of n ws a b).waiting ≡ first ∷ rest → a.take.index < b.put.index
waits n ws a b first rest e =
    let count : length (half_of n ws a b).waiting ≡ b.put.index - a.take.index = length-standing b.base n ws a.take.index (b.put.index - a.take.index) in
    omega (arith, ap length e)

-- the side that took
pub taken_half : (n : ℕ) (ws : List ℕ) (a b : DuoHalf) (first : Frag) (rest : List Frag) → InStep n ws a b → (half_of n ws a b).waiting ≡ first ∷ rest
    → a.known ≡ known_after a.known (half_of n ws a b).waiting
    → half_of n ws (record a { take = next_of a.take }) b ≡ with_taken (half_of n ws a b) first rest
taken_half n ws a b first rest s stands looked_at =
    let there : a.take.index < b.put.index = waits n ws a b first rest stands in
    let full = standing_first b.base n ws a.take.index b.put.index there in
    let parts = same_front (frag_of b.base n ws a.take.index) first (standing b.base n ws (a.take.index + 1) (b.put.index - (a.take.index + 1))) rest (sym full ∙ stands) in
    let count : a.take.index + 1 - a.told ≡ (a.take.index - a.told) + 1 = omega (arith, s.back.told_taken) in
    let last : a.told + (a.take.index - a.told) ≡ a.take.index = omega (arith, s.back.told_taken) in
    same_half a.put.index a.known a.told a.put.index (looked (half_of n ws a b)) a.told
    (standing b.base n ws a.told (a.take.index + 1 - a.told)) ((half_of n ws a b).read ++ first ∷ [])
    (standing b.base n ws (a.take.index + 1) (b.put.index - (a.take.index + 1))) rest
    refl looked_at refl
    (ap (λ (k : ℕ). standing b.base n ws a.told k) count ∙ standing_more b.base n ws a.told (a.take.index - a.told) a.take.index last ∙ ap (λ (g : Frag). (half_of n ws a b).read ++ g ∷ []) parts.0)
    parts.1
