-- The steps of a side of a ring of two directions over shared words: both ways go on as they should.
use Rattle.std.proofs.Common.{ℕ, ◌≡◌, ◌≢◌, ◌<◌, ◌≤◌, ◌+◌, ◌*◌, ◌%◌, ◌^◌, ◌⊎◌, inl, inr, Bool, cond, List, [], ◌∷◌, ◌++◌, length, get_or, set, ap, subst, ◌∙◌}
use Rattle.std.proofs.Common.{sym, arith, Some, length-set, append_assoc, get_or-set_same, get_or-set_other, eq-eqb, ne_eqb}
use Rattle.std.proofs.lemmas.List.{append_cancel_left, length_push}
use native.Mathlib.Decide.{ℕ_discrete}
use Rattle.fl_base.specs.declared.fragment.Frag.{Frag}
use Rattle.fl_base.specs.Control.{epoch_of, told_of}
use Rattle.fl_link.specs.Cursor.{epoch_at}
use Rattle.fl_ring.specs.Counts.{count_from, last_count}
use Rattle.fl_ring.specs.declared.shared.duo_board.SideView.{SideView}
use Rattle.fl_ring.specs.Way.{slot}
use Rattle.fl_ring.specs.SharedWay.{IsNext, IsDue, IsLoaded, WayRuns, frag_from, loaded_frag}
use Rattle.fl_ring.specs.SharedDuo.{NumbersRide, BothRun, ways, CountsNear, side_found, side_stored, side_put, side_control, side_loaded, side_peeked, side_got, known_by}
use Rattle.fl_ring.proofs.Places.{slot_within}
use Rattle.fl_ring.proofs.Numbers.{count_named, count_again, count_rises, last_rises, last_push}
use Rattle.fl_ring.proofs.Tells.{tells_kept, tells_stored, tells_put}
use Rattle.fl_ring.proofs.SharedWays.{runs_found, runs_stored, runs_put, runs_known, runs_control, seen_due, peeked_there, runs_loaded, loaded_whole, loaded_again, got_unspent, runs_peeked, runs_got, runs_told, runs_elsewhere, front_within}

-- ---- from either side

swapped : (b c x : ℕ) → (b + x ≤ c) ⊎ (c + x ≤ b) → (c + x ≤ b) ⊎ (b + x ≤ c)
swapped b c x (inl le) = inr le
swapped b c x (inr le) = inl le

pub turned : (b c n start : ℕ) (ws : List ℕ) (x y : SideView) → BothRun (ways b c n start) ws x y → BothRun (ways c b n start) ws y x
turned b c n start ws x y h = record {
  few = h.few;
  apart = swapped b c (8 * n) h.apart;
  there = h.back;
  back = h.there;
  told_there = h.told_back;
  told_back = h.told_there;
  last_there = h.last_back;
  last_back = h.last_there;
  word_there = h.word_back;
  word_back = h.word_there;
}

-- a word of the way at b is none of the way at c
ways_apart : (b c n i k j : ℕ) → 0 < n → k < 8 → (b + 8 * n ≤ c) ⊎ (c + 8 * n ≤ b) → c ≤ j → j < c + 8 * n → j ≢ slot b n i + k
ways_apart b c n i k j some small (inl before) from below same = omega (arith, slot_within b n i some)
ways_apart b c n i k j some small (inr behind) from below same = omega (arith, slot_within b n i some)

-- ---- numbers

-- one fragment more is sent, with the number of all that was got
rides_put : (sent got : List Frag) (known told all : ℕ) (f : Frag) → NumbersRide sent got known told → told_of f.control ≡ all % 65536 → told ≤ all → all < told + 65536
    → NumbersRide (sent ++ f ∷ []) got known all
rides_put sent got known told all f h number le near = record {
  waiting = h.waiting ++ f ∷ [];
  split = ap (λ (xs : List Frag). xs ++ f ∷ []) h.split ∙ append_assoc got h.waiting (f ∷ []);
  counts = last_push known h.waiting f ∙ ap (λ (k : ℕ). count_from k (told_of f.control)) h.counts ∙ ap (λ (k : ℕ). count_from told k) number ∙ count_named told all le near;
}

rides_rise : (sent got : List Frag) (known told : ℕ) → NumbersRide sent got known told → known ≤ told
rides_rise sent got known told h = omega (arith, h.counts, last_rises known h.waiting)

-- the first that waits is the next
next_waits : (sent got : List Frag) (known told : ℕ) (f : Frag) (h : NumbersRide sent got known told) → (n : IsNext sent got f) → h.waiting ≡ f ∷ n.0
next_waits sent got known told f h (rest, e) = append_cancel_left got h.waiting (f ∷ rest) (sym h.split ∙ e ∙ append_assoc got (f ∷ []) rest)

-- the number of the next fragment becomes known
rides_known : (sent got : List Frag) (known told number : ℕ) (f : Frag) → NumbersRide sent got known told → IsNext sent got f → told_of f.control ≡ number → NumbersRide sent got (count_from known number) told
rides_known sent got known told number f h (rest, e) is =
    let first : h.waiting ≡ f ∷ rest = next_waits sent got known told f h (rest, e) in
    record {
      waiting = h.waiting;
      split = h.split;
      counts =
          ap (λ (xs : List Frag). last_count (count_from known number) xs) first
          ∙ ap (λ (k : ℕ). last_count (count_from (count_from known number) k) rest) is
          ∙ ap (λ (k : ℕ). last_count k rest) (count_again known number)
          ∙ ap (λ (k : ℕ). last_count (count_from known k) rest) (sym is)
          ∙ ap (λ (xs : List Frag). last_count known xs) (sym first)
          ∙ h.counts;
    }

-- the next fragment is taken, whose number is known
rides_taken : (sent got : List Frag) (known told : ℕ) (f : Frag) → NumbersRide sent got known told → IsNext sent got f → count_from known (told_of f.control) ≡ known → NumbersRide sent (got ++ f ∷ []) known told
rides_taken sent got known told f h (rest, e) knows =
    let first : h.waiting ≡ f ∷ rest = next_waits sent got known told f h (rest, e) in
    record {
      waiting = rest;
      split = e;
      counts = ap (λ (k : ℕ). last_count k rest) (sym knows) ∙ ap (λ (xs : List Frag). last_count known xs) (sym first) ∙ h.counts;
    }

module _ (b c n start : ℕ) (ws : List ℕ) (x y : SideView) where
  -- ---- stores

  away : (i k v : ℕ) → k < 8 → BothRun (ways b c n start) ws x y → (j : ℕ) → c ≤ j → j < c + 8 * n → get_or (set ws (slot b n i + k) v) j 0 ≡ get_or ws j 0
  away i k v small h j from below = get_or-set_other ws (slot b n i + k) j v 0 (ways_apart b c n i k j h.there.holds.marked.some small h.apart from below)

  away_control : (i k v : ℕ) → k < 8 → BothRun (ways b c n start) ws x y → (j : ℕ) → get_or (set ws (slot b n i + k) v) (slot c n j + 7) 0 ≡ get_or ws (slot c n j + 7) 0
  away_control i k v small h j = let within = slot_within c n j h.back.holds.marked.some in let p : ℕ = j % n in away i k v small h (slot c n j + 7) (omega arith) (omega arith)

  pub both_stored : (k v : ℕ) → BothRun (ways b c n start) ws x y → length x.put.sent < x.put.known + n → k ≤ length x.put.part → k < 7
      → BothRun (ways b c n start) (set ws (slot b n (length x.put.sent) + k) v) (side_stored x k v) y
  both_stored k v h room few small =
      let place : ℕ = slot b n (length x.put.sent) + k in
      let ws' : List ℕ = set ws place v in
      record {
        few = h.few;
        apart = h.apart;
        there = runs_stored b n ws x.put y.take y.take.told v k h.there room few small;
        back = runs_elsewhere c n ws y.put x.take x.take.told ws' h.back (length-set ws place v) (away (length x.put.sent) k v (omega arith) h);
        told_there = h.told_there;
        told_back = h.told_back;
        last_there = h.last_there;
        last_back = h.last_back;
        word_there = tells_stored b n start ws (length x.put.sent) x.take.told (length x.put.sent) k v small h.word_there;
        word_back = tells_kept c n start ws ws' (length y.put.sent) y.take.told h.word_back (away_control (length x.put.sent) k v (omega arith) h);
      }

  pub both_put : (w : ℕ) → BothRun (ways b c n start) ws x y → length x.put.sent < x.put.known + n → length x.put.part ≡ 7 → length x.put.sent < 2 ^ 62 → epoch_of w ≡ epoch_at n (length x.put.sent)
      → told_of w ≡ length x.take.got % 65536 → BothRun (ways b c n start) (set ws (slot b n (length x.put.sent) + 7) w) (side_put x w) y
  both_put w h room seven unspent turn number =
      let place : ℕ = slot b n (length x.put.sent) + 7 in
      let ws' : List ℕ = set ws place w in
      let near : length x.take.got < x.take.told + 65536 = omega (arith, h.few, front_within x.take.got y.put.sent h.back.got_sent, h.back.room, h.back.known_told) in
      let stays : WayRuns c n ws' y.put x.take x.take.told =
      runs_elsewhere c n ws y.put x.take x.take.told ws' h.back (length-set ws place w) (away (length x.put.sent) 7 w (omega arith) h) in
      record {
        few = h.few;
        apart = h.apart;
        there = runs_put b n ws x.put y.take y.take.told w h.there room seven unspent turn;
        back = runs_told c n ws' y.put x.take x.take.told (length x.take.got) stays h.back.told_got (omega arith);
        told_there = rides_put x.put.sent y.take.got y.put.known x.take.told (length x.take.got) (frag_from x.put.part w) h.told_there number h.back.told_got near;
        told_back = h.told_back;
        last_there = h.last_there;
        last_back = h.last_back;
        word_there =
            let at : get_or ws' place 0 ≡ w = get_or-set_same ws place w 0 (omega (arith, slot_within b n (length x.put.sent) h.there.holds.marked.some, h.there.holds.marked.wide)) in
            tells_put b n start ws' (length x.put.sent) (length (x.put.sent ++ frag_from x.put.part w ∷ [])) (length x.take.got) w h.word_there.since (length_push x.put.sent (frag_from x.put.part w)) at number;
        word_back = tells_kept c n start ws ws' (length y.put.sent) y.take.told h.word_back (away_control (length x.put.sent) 7 w (omega arith) h);
      }

  -- ---- loads

  pub both_found : (v : ℕ) → BothRun (ways b c n start) ws x y → length x.put.part < 7 → v ≡ get_or ws (slot b n (length x.put.sent) + length x.put.part) 0 → BothRun (ways b c n start) ws (side_found x v) y
  both_found v h small is = record {
    few = h.few;
    apart = h.apart;
    there = runs_found b n ws x.put y.take y.take.told v h.there small is;
    back = h.back;
    told_there = h.told_there;
    told_back = h.told_back;
    last_there = h.last_there;
    last_back = h.last_back;
    word_there = h.word_there;
    word_back = h.word_back;
  }

  -- what a look knows is told
  known_told : (w : ℕ) → BothRun (ways b c n start) ws x y → w ≡ get_or ws (slot c n (length x.take.got) + 7) 0 → (epoch_of w ≡ epoch_at n (length x.take.got)) → NumbersRide y.put.sent x.take.got (count_from x.put.known (told_of w)) y.take.told
  known_told w h is due =
      let l : IsLoaded y.put.sent x.take.got [] w = seen_due c n ws y.put x.take x.take.told w h.back is due in
      rides_known y.put.sent x.take.got x.put.known y.take.told (told_of w) l.frag h.told_back l.next (ap told_of l.control)

  known_cases : (w : ℕ) → BothRun (ways b c n start) ws x y → w ≡ get_or ws (slot c n (length x.take.got) + 7) 0 → Dec (epoch_of w ≡ epoch_at n (length x.take.got))
      → NumbersRide y.put.sent x.take.got (known_by n x w) y.take.told × (x.put.known ≤ known_by n x w)
  known_cases w h is (yes due) =
      let same : count_from x.put.known (told_of w) ≡ known_by n x w = sym (ap (λ (t : Bool). cond t (count_from x.put.known (told_of w)) x.put.known) (eq-eqb (epoch_of w) (epoch_at n (length x.take.got)) due)) in
      (subst (λ (k : ℕ). NumbersRide y.put.sent x.take.got k y.take.told) same (known_told w h is due), omega (arith, same, count_rises x.put.known (told_of w)))
  known_cases w h is (no other) =
      let same : x.put.known ≡ known_by n x w = sym (ap (λ (t : Bool). cond t (count_from x.put.known (told_of w)) x.put.known) (ne_eqb (epoch_of w) (epoch_at n (length x.take.got)) other)) in
      (subst (λ (k : ℕ). NumbersRide y.put.sent x.take.got k y.take.told) same h.told_back, omega (arith, same))

  pub known_after_look : (w : ℕ) → BothRun (ways b c n start) ws x y → w ≡ get_or ws (slot c n (length x.take.got) + 7) 0
      → NumbersRide y.put.sent x.take.got (known_by n x w) y.take.told × (x.put.known ≤ known_by n x w)
  known_after_look w h is = known_cases w h is (ℕ_discrete (epoch_of w) (epoch_at n (length x.take.got)))

  pub both_control : (w : ℕ) → BothRun (ways b c n start) ws x y → w ≡ get_or ws (slot c n (length x.take.got) + 7) 0 → BothRun (ways b c n start) ws (side_control n x w) y
  both_control w h is =
      let after = known_after_look w h is in
      record {
        few = h.few;
        apart = h.apart;
        there = runs_known b n ws x.put y.take y.take.told (known_by n x w) h.there after.1 (rides_rise y.put.sent x.take.got (known_by n x w) y.take.told after.0);
        back = runs_control c n ws y.put x.take x.take.told w h.back is;
        told_there = h.told_there;
        told_back = after.0;
        last_there = λ due small.
            let same : count_from x.put.known (told_of w) ≡ known_by n x w = sym (ap (λ (t : Bool). cond t (count_from x.put.known (told_of w)) x.put.known) (eq-eqb (epoch_of w) (epoch_at n (length x.take.got)) due)) in
            ap (λ (k : ℕ). count_from k (told_of w)) (sym same) ∙ count_again x.put.known (told_of w) ∙ same;
        last_back = h.last_back;
        word_there = h.word_there;
        word_back = h.word_back;
      }

  -- what is known after a look was sent
  pub known_sent : (w : ℕ) → BothRun (ways b c n start) ws x y → w ≡ get_or ws (slot c n (length x.take.got) + 7) 0 → known_by n x w ≤ length x.put.sent
  known_sent w h is =
      let after = known_after_look w h is in
      omega (arith, rides_rise y.put.sent x.take.got (known_by n x w) y.take.told after.0, h.there.told_got, front_within y.take.got x.put.sent h.there.got_sent)

  pub both_peeked_there : (w : ℕ) → BothRun (ways b c n start) ws x y → w ≡ get_or ws (slot c n (length x.take.got) + 7) 0 → (f : Frag) → x.take.peeked ≡ Some f
      → (epoch_of w ≡ epoch_at n (length x.take.got)) × (f.control ≡ w)
  both_peeked_there w h is f e = peeked_there c n ws y.put x.take x.take.told w h.back is f e

  pub both_loaded : (v : ℕ) → BothRun (ways b c n start) ws x y → IsDue n x.take → length x.take.part < 6 → v ≡ get_or ws (slot c n (length x.take.got) + length x.take.part) 0 → BothRun (ways b c n start) ws (side_loaded x v) y
  both_loaded v h due small is = record {
    few = h.few;
    apart = h.apart;
    there = h.there;
    back = runs_loaded c n ws y.put x.take x.take.told v h.back due small is;
    told_there = h.told_there;
    told_back = h.told_back;
    last_there = λ d s. h.last_there due (omega arith);
    last_back = h.last_back;
    word_there = h.word_there;
    word_back = h.word_back;
  }

  pub both_peeked : (v : ℕ) → BothRun (ways b c n start) ws x y → IsDue n x.take → length x.take.part ≡ 6 → v ≡ get_or ws (slot c n (length x.take.got) + 6) 0 → BothRun (ways b c n start) ws (side_peeked x v) y
  both_peeked v h due six is = record {
    few = h.few;
    apart = h.apart;
    there = h.there;
    back = runs_peeked c n ws y.put x.take x.take.told v h.back due six is;
    told_there = h.told_there;
    told_back = h.told_back;
    last_there = λ d s. h.last_there due (omega arith);
    last_back = h.last_back;
    word_there = h.word_there;
    word_back = h.word_back;
  }

  pub both_got : (v : ℕ) → BothRun (ways b c n start) ws x y → IsDue n x.take → length x.take.part ≡ 6 → v ≡ get_or ws (slot c n (length x.take.got) + 6) 0 → BothRun (ways b c n start) ws (side_got x v) y
  both_got v h due six is =
      let f : Frag = loaded_frag x.take v in
      let next : IsNext y.put.sent x.take.got f = loaded_whole c n ws y.put x.take x.take.told v h.back due six is in
      record {
        few = h.few;
        apart = h.apart;
        there = h.there;
        back = runs_got c n ws y.put x.take x.take.told v h.back due six is;
        told_there = h.told_there;
        told_back = rides_taken y.put.sent x.take.got x.put.known y.take.told f h.told_back next (h.last_there due (omega arith));
        last_there = λ d s. absurd (omega (arith, length_push x.take.part v));
        last_back = h.last_back;
        word_there = h.word_there;
        word_back = h.word_back;
      }

  pub both_again : (v : ℕ) → BothRun (ways b c n start) ws x y → IsDue n x.take → length x.take.part ≡ 6 → v ≡ get_or ws (slot c n (length x.take.got) + 6) 0 → (f : Frag) → x.take.peeked ≡ Some f → loaded_frag x.take v ≡ f
  both_again v h due six is f e = loaded_again c n ws y.put x.take x.take.told v h.back due six is f e

  pub both_few : (v : ℕ) → BothRun (ways b c n start) ws x y → IsDue n x.take → length x.take.part ≡ 6 → v ≡ get_or ws (slot c n (length x.take.got) + 6) 0 → length x.take.got < 2 ^ 62
  both_few v h due six is = got_unspent c n ws y.put x.take x.take.told v h.back due six is

  pub both_near : BothRun (ways b c n start) ws x y → CountsNear n x y
  both_near h = record {
    few = h.few;
    got_sent = h.there.got_sent;
    known_told = h.there.known_told;
    told_got = h.there.told_got;
    sent_near = h.there.room;
  }
