-- The steps of a way between two threads: each leaves what holds at every moment.
use Rattle.std.proofs.Common.{ℕ, ◌≡◌, ◌≢◌, ◌<◌, ◌≤◌, ◌+◌, ◌*◌, ◌%◌, ◌^◌, ◌⊎◌, inl, inr, List, [], ◌∷◌, ◌++◌, length, get_or, set, take, ap, subst, ◌∙◌, sym}
use Rattle.std.proofs.Common.{refl, arith, Option, Some, None, length-append, append_assoc, get_or-set_same, get_or-set_other}
use Rattle.std.proofs.lemmas.List.{get_or_append_left, get_or_push, get_or-take, length_push, length-take-le}
use Rattle.std.proofs.lemmas.List.FromFn.{fill_by_all, get_or-map-range_with_len}
use Rattle.std.proofs.lemmas.Bool.{cases_lt}
use Rattle.fl_base.specs.declared.fragment.Frag.{Frag}
use Rattle.fl_base.specs.Control.{epoch_of}
use Rattle.fl_base.specs.Prefix.{IsPrefix}
use Rattle.fl_link.specs.Cursor.{epoch_at}
use Rattle.fl_ring.specs.declared.shared.board.WriterView.{WriterView}
use Rattle.fl_ring.specs.declared.shared.board.ReaderView.{ReaderView}
use Rattle.fl_ring.specs.Way.{slot, frag_of, epoch_in, IsClear, WritesSlot}
use Rattle.fl_ring.specs.SharedWay.{IsNext, IsDue, IsLoaded, WayRuns, frag_from, loaded_frag, with_found, with_stored, with_put, with_known, with_control, with_loaded, with_peeked, with_got, with_told}
use Rattle.fl_ring.proofs.Places.{slot_within}
use Rattle.fl_ring.proofs.Ways.{same_frag}
use Rattle.fl_ring.proofs.Clear.{clear_word, clear_elsewhere}
use Rattle.fl_ring.proofs.SlotWrites.{slot_written}
use Rattle.fl_ring.proofs.Published.{holds_word, holds_control, holds_told, holds_elsewhere, holds_due}

-- ---- fronts

pub more_sent : (got sent : List Frag) (f : Frag) → IsPrefix got sent → IsPrefix got (sent ++ f ∷ [])
more_sent got sent f (more, e) = (more ++ f ∷ [], ap (λ (xs : List Frag). xs ++ f ∷ []) e ∙ append_assoc got more (f ∷ []))

pub front_within : (got sent : List Frag) → IsPrefix got sent → length got ≤ length sent
front_within got sent (more, e) = omega (arith, ap length e, length-append got more)

-- the next fragment, where more were sent than got
pub next_at : (sent got : List Frag) → IsPrefix got sent → length got < length sent → (f : Frag) × IsNext sent got f
next_at sent got ([], e) lt = absurd (omega (arith, ap length e, length-append got []))
next_at sent got (f ∷ rest, e) lt = (f, (rest, e ∙ sym (append_assoc got (f ∷ []) rest)))

pub next_stands : (sent got : List Frag) (f d : Frag) → IsNext sent got f → get_or sent (length got) d ≡ f
next_stands sent got f d (rest, e) =
    let inside : length got < length (got ++ f ∷ []) = omega (arith, length_push got f) in
    ap (λ (xs : List Frag). get_or xs (length got) d) e ∙ get_or_append_left (got ++ f ∷ []) rest d (length got) inside ∙ get_or_push got f d (length got) refl

pub next_there : (sent got : List Frag) (f : Frag) → IsNext sent got f → length got < length sent
next_there sent got f (rest, e) = omega (arith, ap length e, length-append (got ++ f ∷ []) rest, length_push got f)

-- there is one next fragment
pub next_same : (sent got : List Frag) (f g : Frag) → IsNext sent got f → IsNext sent got g → f ≡ g
next_same sent got f g x y = sym (next_stands sent got f f x) ∙ next_stands sent got g f y

module _ (b n : ℕ) (ws : List ℕ) (w : WriterView) (r : ReaderView) (told : ℕ) where
  -- the next fragment stands in its slot
  pub next_in_slot : WayRuns b n ws w r told → (f : Frag) → IsNext w.sent r.got f → f ≡ frag_of b n ws (length r.got)
  next_in_slot h f x = sym (next_stands w.sent r.got f f x) ∙ h.holds.stand (length r.got) f h.told_got (next_there w.sent r.got f x)

  -- ---- the writer's steps

  -- the next slot is within the table
  slot_fits : WayRuns b n ws w r told → slot b n (length w.sent) + 8 ≤ length ws
  slot_fits h = omega (arith, slot_within b n (length w.sent) h.holds.marked.some, h.holds.marked.wide)

  -- one payload word more of the next slot is known
  part_found : (x : ℕ) → WayRuns b n ws w r told → x ≡ get_or ws (slot b n (length w.sent) + length w.part) 0 → (k : ℕ) → k < length (w.part ++ x ∷ []) → (k < length w.part) ⊎ (length w.part ≤ k)
      → get_or ws (slot b n (length w.sent) + k) 0 ≡ get_or (w.part ++ x ∷ []) k 0
  part_found x h is k lt (inl before) = h.part k before ∙ sym (get_or_append_left w.part (x ∷ []) 0 k before)
  part_found x h is k lt (inr there) =
      let last : length w.part ≡ k = omega (arith, length_push w.part x) in
      ap (λ (j : ℕ). get_or ws (slot b n (length w.sent) + j) 0) (sym last) ∙ sym is ∙ sym (get_or_push w.part x 0 k last)

  pub runs_found : (x : ℕ) → WayRuns b n ws w r told → length w.part < 7 → x ≡ get_or ws (slot b n (length w.sent) + length w.part) 0 → WayRuns b n ws (with_found w x) r told
  runs_found x h small is = record {
    holds = h.holds;
    told_got = h.told_got;
    got_sent = h.got_sent;
    known_told = h.known_told;
    room = h.room;
    most = h.most;
    seven = omega (arith, length_push w.part x);
    part = λ k lt. part_found x h is k lt (cases_lt k (length w.part));
    due = h.due;
    peeked = h.peeked;
    clear = h.clear;
    untouched = λ none. absurd (omega (arith, ap length none, length_push w.part x));
  }

  -- a number is stored into payload word j, and the words before it are known
  stored_length : (x j : ℕ) → j ≤ length w.part → length (take j w.part ++ x ∷ []) ≡ j + 1
  stored_length x j few = omega (arith, length_push (take j w.part) x, length-take-le j w.part few)

  part_stored : (x j : ℕ) → WayRuns b n ws w r told → j ≤ length w.part → j < 7 → (k : ℕ) → k < length (take j w.part ++ x ∷ []) → (k < j) ⊎ (j ≤ k)
      → get_or (set ws (slot b n (length w.sent) + j) x) (slot b n (length w.sent) + k) 0 ≡ get_or (take j w.part ++ x ∷ []) k 0
  part_stored x j h few small k lt (inl before) =
      let s : ℕ = slot b n (length w.sent) in
      let away : s + k ≢ s + j = λ e. omega arith in
      let inside : k < length (take j w.part) = omega (arith, length-take-le j w.part few) in
      get_or-set_other ws (s + j) (s + k) x 0 away ∙ h.part k (omega arith) ∙ sym (get_or-take j w.part k 0 before)
      ∙ sym (get_or_append_left (take j w.part) (x ∷ []) 0 k inside)
  part_stored x j h few small k lt (inr there) =
      let s : ℕ = slot b n (length w.sent) in
      let here : k ≡ j = omega (arith, stored_length x j few) in
      let last : length (take j w.part) ≡ k = omega (arith, length-take-le j w.part few) in
      let inside : s + j < length ws = omega (arith, slot_fits h) in
      ap (λ (i : ℕ). get_or (set ws (s + j) x) (s + i) 0) here ∙ get_or-set_same ws (s + j) x 0 inside ∙ sym (get_or_push (take j w.part) x 0 k last)

  pub runs_stored : (x j : ℕ) → WayRuns b n ws w r told → length w.sent < w.known + n → j ≤ length w.part → j < 7
      → WayRuns b n (set ws (slot b n (length w.sent) + j) x) (with_stored w j x) r told
  runs_stored x j h room few small = record {
    holds = holds_word b n ws w.sent told j x h.holds (omega (arith, h.known_told)) small;
    told_got = h.told_got;
    got_sent = h.got_sent;
    known_told = h.known_told;
    room = h.room;
    most = h.most;
    seven = omega (arith, stored_length x j few);
    part = λ k lt. part_stored x j h few small k lt (cases_lt k j);
    due = h.due;
    peeked = h.peeked;
    clear = clear_word b n (length w.sent) j x ws (omega arith) h.clear;
    untouched = λ none. absurd (omega (arith, ap length none, stored_length x j few));
  }

  pub runs_put : (c : ℕ) → WayRuns b n ws w r told → length w.sent < w.known + n → length w.part ≡ 7 → length w.sent < 2 ^ 62 → epoch_of c ≡ epoch_at n (length w.sent)
      → WayRuns b n (set ws (slot b n (length w.sent) + 7) c) (with_put w c) r told
  runs_put c h room seven unspent turn =
      let f : Frag = frag_from w.part c in
      let sent' : List Frag = w.sent ++ f ∷ [] in
      let len : length sent' ≡ length w.sent + 1 = length_push w.sent f in
      let write : WritesSlot (slot b n (length w.sent)) f ws (set ws (slot b n (length w.sent) + 7) c) =
      slot_written ws ws (slot b n (length w.sent)) f (slot_fits h) refl seven (λ k lt. h.part k (omega arith)) (λ i away. refl) in
      let stays : IsClear b n (set ws (slot b n (length w.sent) + 7) c) (length w.sent + 1) = clear_word b n (length w.sent) 7 c ws (omega arith) h.clear in
      record {
        holds = holds_control b n ws (set ws (slot b n (length w.sent) + 7) c) w.sent told f h.holds (omega (arith, h.known_told)) write turn;
        told_got = h.told_got;
        got_sent = more_sent r.got w.sent f h.got_sent;
        known_told = h.known_told;
        room = omega (arith, len);
        most = omega (arith, len);
        seven = omega arith;
        part = λ k lt. absurd (omega arith);
        due = λ d lt. let l = h.due d lt in record { frag = l.frag; next = more_sent (r.got ++ l.frag ∷ []) w.sent f l.next; control = l.control; words = l.words };
        peeked = λ g e. more_sent (r.got ++ g ∷ []) w.sent f (h.peeked g e);
        clear = λ i from below. stays i (omega (arith, len)) below;
        untouched = λ _ i from below. stays i (omega (arith, len)) below;
      }

  pub runs_known : (k : ℕ) → WayRuns b n ws w r told → w.known ≤ k → k ≤ told → WayRuns b n ws (with_known w k) r told
  runs_known k h rises most = record {
    holds = h.holds;
    told_got = h.told_got;
    got_sent = h.got_sent;
    known_told = most;
    room = omega (arith, h.room);
    most = h.most;
    seven = h.seven;
    part = h.part;
    due = h.due;
    peeked = h.peeked;
    clear = h.clear;
    untouched = h.untouched;
  }

  -- ---- the reader's steps

  got_within : WayRuns b n ws w r told → length r.got ≤ length w.sent
  got_within h = front_within r.got w.sent h.got_sent

  -- the control word of the next slot has the epoch due: the next fragment is there
  pub seen_due : (c : ℕ) → WayRuns b n ws w r told → c ≡ get_or ws (slot b n (length r.got) + 7) 0 → epoch_of c ≡ epoch_at n (length r.got) → IsLoaded w.sent r.got [] c
  seen_due c h is due =
      let here : epoch_in b n ws (length r.got) ≡ epoch_at n (length r.got) = ap epoch_of (sym is) ∙ due in
      let there : length r.got < length w.sent = (holds_due b n ws w.sent told (length r.got) (frag_of b n ws (length r.got)) h.holds h.told_got (got_within h) here).0 in
      let next = next_at w.sent r.got h.got_sent there in
      record {
        frag = next.0;
        next = next.1;
        control = ap (λ (f : Frag). f.control) (next_in_slot h next.0 next.1) ∙ sym is;
        words = λ k lt. absurd (omega arith);
      }

  pub runs_control : (c : ℕ) → WayRuns b n ws w r told → c ≡ get_or ws (slot b n (length r.got) + 7) 0 → WayRuns b n ws w (with_control n r c) told
  runs_control c h is = record {
    holds = h.holds;
    told_got = h.told_got;
    got_sent = h.got_sent;
    known_told = h.known_told;
    room = h.room;
    most = h.most;
    seven = h.seven;
    part = h.part;
    due = λ d lt. seen_due c h is d;
    peeked = h.peeked;
    clear = h.clear;
    untouched = h.untouched;
  }

  -- a fragment that was peeked is still there
  pub peeked_there : (c : ℕ) → WayRuns b n ws w r told → c ≡ get_or ws (slot b n (length r.got) + 7) 0 → (f : Frag) → r.peeked ≡ Some f → (epoch_of c ≡ epoch_at n (length r.got)) × (f.control ≡ c)
  peeked_there c h is f e = (
    ap epoch_of is ∙ h.holds.marked.full (length r.got) h.told_got (next_there w.sent r.got f (h.peeked f e)),
    ap (λ (g : Frag). g.control) (next_in_slot h f (h.peeked f e)) ∙ sym is,
  )

  -- a payload word of the fragment in the next slot
  word_of : (f : Frag) (k : ℕ) → f ≡ frag_of b n ws (length r.got) → k < 7 → get_or f.words k 0 ≡ get_or ws (slot b n (length r.got) + k) 0
  word_of f k e lt =
      let s : ℕ = slot b n (length r.got) in
      ap (λ (g : Frag). get_or g.words k 0) e ∙ get_or-map-range_with_len (λ (j : ℕ). get_or ws (s + j) 0) 0 7 k k 0 (omega arith) (omega arith)

  -- one payload word more of the next fragment
  loaded_more : (x : ℕ) → WayRuns b n ws w r told → (l : IsLoaded w.sent r.got r.part r.last) → length r.part < 7 → x ≡ get_or ws (slot b n (length r.got) + length r.part) 0
      → (k : ℕ) → k < length (r.part ++ x ∷ []) → (k < length r.part) ⊎ (length r.part ≤ k) → get_or (r.part ++ x ∷ []) k 0 ≡ get_or l.frag.words k 0
  loaded_more x h l small is k lt (inl before) = get_or_append_left r.part (x ∷ []) 0 k before ∙ l.words k before
  loaded_more x h l small is k lt (inr there) =
      let last : length r.part ≡ k = omega (arith, length_push r.part x) in
      get_or_push r.part x 0 k last ∙ is ∙ ap (λ (j : ℕ). get_or ws (slot b n (length r.got) + j) 0) last
      ∙ sym (word_of l.frag k (next_in_slot h l.frag l.next) (omega arith))

  pub runs_loaded : (x : ℕ) → WayRuns b n ws w r told → IsDue n r → length r.part < 6 → x ≡ get_or ws (slot b n (length r.got) + length r.part) 0 → WayRuns b n ws w (with_loaded r x) told
  runs_loaded x h due small is =
      let l : IsLoaded w.sent r.got r.part r.last = h.due due (omega arith) in
      record {
        holds = h.holds;
        told_got = h.told_got;
        got_sent = h.got_sent;
        known_told = h.known_told;
        room = h.room;
        most = h.most;
        seven = h.seven;
        part = h.part;
        due = λ d lt. record { frag = l.frag; next = l.next; control = l.control; words = λ k below. loaded_more x h l (omega arith) is k below (cases_lt k (length r.part)) };
        peeked = h.peeked;
        clear = h.clear;
        untouched = h.untouched;
      }

  same_parts : (f : Frag) (xs : List ℕ) (c : ℕ) → f.words ≡ xs → f.control ≡ c → f ≡ frag_from xs c
  same_parts f xs c e d = λ i. frag_from (e i) (d i)

  -- with the seventh, the fragment is whole
  pub loaded_whole : (x : ℕ) → WayRuns b n ws w r told → IsDue n r → length r.part ≡ 6 → x ≡ get_or ws (slot b n (length r.got) + 6) 0 → IsNext w.sent r.got (loaded_frag r x)
  loaded_whole x h due six is =
      let l : IsLoaded w.sent r.got r.part r.last = h.due due (omega arith) in
      let s : ℕ = slot b n (length r.got) in
      let there : l.frag ≡ frag_of b n ws (length r.got) = next_in_slot h l.frag l.next in
      let here : x ≡ get_or ws (s + length r.part) 0 = is ∙ ap (λ (j : ℕ). get_or ws (s + j) 0) (sym six) in
      let count : length (r.part ++ x ∷ []) ≡ 7 = omega (arith, length_push r.part x) in
      let words : r.part ++ x ∷ [] ≡ (frag_of b n ws (length r.got)).words =
      fill_by_all (λ (k : ℕ). get_or ws (s + k) 0) (r.part ++ x ∷ []) 7 0 count
      (λ k lt. loaded_more x h l (omega arith) here k (omega arith) (cases_lt k (length r.part)) ∙ word_of l.frag k there lt) in
      let whole : l.frag ≡ loaded_frag r x = same_parts l.frag (r.part ++ x ∷ []) r.last (ap (λ (f : Frag). f.words) there ∙ sym words) l.control in
      subst (λ (f : Frag). IsNext w.sent r.got f) whole l.next

  -- a fragment that was peeked is the one loaded
  pub loaded_again : (x : ℕ) → WayRuns b n ws w r told → IsDue n r → length r.part ≡ 6 → x ≡ get_or ws (slot b n (length r.got) + 6) 0 → (f : Frag) → r.peeked ≡ Some f → loaded_frag r x ≡ f
  loaded_again x h due six is f e = next_same w.sent r.got (loaded_frag r x) f (loaded_whole x h due six is) (h.peeked f e)

  some_same : (f g : Frag) → (let o : Option Frag = Some f in o) ≡ Some g → f ≡ g
  some_same f g e = cc

  none_some : (g : Frag) → (let o : Option Frag = None in o) ≡ Some g → ⊥
  none_some g e = cc

  pub runs_peeked : (x : ℕ) → WayRuns b n ws w r told → IsDue n r → length r.part ≡ 6 → x ≡ get_or ws (slot b n (length r.got) + 6) 0 → WayRuns b n ws w (with_peeked r x) told
  runs_peeked x h due six is = record {
    holds = h.holds;
    told_got = h.told_got;
    got_sent = h.got_sent;
    known_told = h.known_told;
    room = h.room;
    most = h.most;
    seven = h.seven;
    part = h.part;
    due = λ d lt. absurd (omega (arith, length_push r.part x));
    peeked = λ f e. subst (λ (g : Frag). IsNext w.sent r.got g) (some_same (loaded_frag r x) f e) (loaded_whole x h due six is);
    clear = h.clear;
    untouched = h.untouched;
  }

  pub runs_got : (x : ℕ) → WayRuns b n ws w r told → IsDue n r → length r.part ≡ 6 → x ≡ get_or ws (slot b n (length r.got) + 6) 0 → WayRuns b n ws w (with_got r x) told
  runs_got x h due six is = record {
    holds = h.holds;
    told_got = omega (arith, h.told_got, length_push r.got (loaded_frag r x));
    got_sent = loaded_whole x h due six is;
    known_told = h.known_told;
    room = h.room;
    most = h.most;
    seven = h.seven;
    part = h.part;
    due = λ d lt. absurd (omega (arith, length_push r.part x));
    peeked = λ f e. absurd (none_some f e);
    clear = h.clear;
    untouched = h.untouched;
  }

  -- fewer are got than ever will be
  pub got_unspent : (x : ℕ) → WayRuns b n ws w r told → IsDue n r → length r.part ≡ 6 → x ≡ get_or ws (slot b n (length r.got) + 6) 0 → length r.got < 2 ^ 62
  got_unspent x h due six is = omega (arith, next_there w.sent r.got (loaded_frag r x) (loaded_whole x h due six is), h.most)

  pub runs_told : (t : ℕ) → WayRuns b n ws w r told → told ≤ t → t ≤ length r.got → WayRuns b n ws w (with_told r t) t
  runs_told t h rises most = record {
    holds = holds_told b n ws w.sent told t h.holds rises (omega (arith, got_within h));
    told_got = most;
    got_sent = h.got_sent;
    known_told = omega (arith, h.known_told);
    room = h.room;
    most = h.most;
    seven = h.seven;
    part = h.part;
    due = h.due;
    peeked = h.peeked;
    clear = h.clear;
    untouched = h.untouched;
  }

  -- ---- a word outside the way changes

  pub runs_elsewhere : (ws' : List ℕ) → WayRuns b n ws w r told → length ws' ≡ length ws → ((i : ℕ) → b ≤ i → i < b + 8 * n → get_or ws' i 0 ≡ get_or ws i 0) → WayRuns b n ws' w r told
  runs_elsewhere ws' h len same = record {
    holds = holds_elsewhere b n ws ws' w.sent told h.holds len (λ i. same_frag ws ws' (slot b n i) (λ k lt. inside i k lt));
    told_got = h.told_got;
    got_sent = h.got_sent;
    known_told = h.known_told;
    room = h.room;
    most = h.most;
    seven = h.seven;
    part = λ k lt. inside (length w.sent) k (omega (arith, h.seven)) ∙ h.part k lt;
    due = h.due;
    peeked = h.peeked;
    clear = clear_elsewhere b n (length w.sent + 1) ws ws' h.clear same;
    untouched = λ none. clear_elsewhere b n (length w.sent) ws ws' (h.untouched none) same;
  }
    where
      inside : (i k : ℕ) → k < 8 → get_or ws' (slot b n i + k) 0 ≡ get_or ws (slot b n i + k) 0
      inside i k lt = let within = slot_within b n i h.holds.marked.some in let p : ℕ = i % n in same (slot b n i + k) (omega arith) (omega arith)
