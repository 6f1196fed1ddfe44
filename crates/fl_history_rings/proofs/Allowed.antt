-- What the rule allows a core by one of its sides, step by step.
use Rattle.std.proofs.Common.{Some, ℕ, zero, ◌≡◌, ◌≢◌, ◌<◌, ◌≤◌, ◌+◌, ◌*◌, ◌-◌, ◌%◌, ◌^◌, ◌==◌, ◌⊎◌, inl, inr, eq-eqb, List, [], ◌∷◌, ◌++◌, length, take, get_or, set, ap, subst, ◌∙◌, sym, refl, arith, length-set, length-append, append_assoc, get_or-set_other}
use Rattle.std.proofs.lemmas.List.{append_cancel_left}
use mathlib.Core.Logic.{dite}
use mathlib.Core.Option.{some, none}
use native.Mathlib.Decide.{ℕ_discrete}
use lib.ListN.{get_elem?}
use Rattle.atomic_table.specs.Table.{Me, step, Allows}
use Rattle.fl_base.specs.declared.fragment.Frag.{Frag}
use Rattle.fl_base.specs.Control.{epoch_of, told_of}
use Rattle.fl_link.specs.Cursor.{epoch_at}
use Rattle.fl_ring.specs.Counts.{count_from}
use Rattle.fl_ring.specs.Way.{slot}
use Rattle.fl_ring.specs.SharedWay.{IsNext, IsDue, IsLoaded, WayRuns, frag_from, loaded_frag, with_found, with_stored}
use Rattle.fl_ring.specs.SharedDuo.{BothRun, ways, side_found, side_stored, side_put, side_control, side_loaded, side_peeked, side_got, known_by}
use Rattle.fl_ring.specs.declared.shared.duo_board.SideView.{SideView}
use Rattle.fl_ring.proofs.SharedTables.{Moves, allows_by, allows_load}
use Rattle.fl_ring.proofs.SharedWays.{seen_due, loaded_whole}
use Rattle.fl_ring.proofs.SharedDuos.{both_stored, both_put, both_found, both_control, known_sent, both_loaded, both_peeked, both_got, both_few, both_peeked_there, both_again}
use Rattle.fl_history_rings.specs.declared.board.Action.{Action}
use Rattle.fl_history_rings.specs.declared.board.Action.TheVariants.{Put, Found, Missed, Saw, Took}
use Rattle.fl_history_rings.specs.declared.board.Entry.{Entry}
use Rattle.fl_history_rings.specs.declared.board.SideEnd.{SideEnd}
use Rattle.fl_history_rings.specs.declared.board.Insight.{Insight}
use Rattle.fl_history_rings.specs.declared.board.Insight.TheVariants.{Nothing, Writing, Reading}
use Rattle.fl_history_rings.specs.declared.board.CoreView.{CoreView}
use Rattle.fl_history_rings.specs.declared.board.SeatView.{SeatView}
use Rattle.fl_history_rings.specs.Rings.{mate, Way, way_with, Does, entry}
use Rattle.fl_history_rings.specs.Rule.{first_word, putter_of, Lies, KnowsSide, Holds, Account, Fits, Held, RingsHold, view_of, seat_of, one_core, core_of, alone, puts_at, takes_at, known_at, seen_at, due_at}
use Rattle.fl_history_rings.specs.Rule.{finds_word, stores_word, stores_control, CountsSent, IsSeenControl, IsSeenFrag, looks, counts, loads_word, sees_frag, takes_frag, OneOrder, compares}
use Rattle.fl_history_rings.specs.Seats.{put_insight}
use Rattle.fl_history_rings.proofs.Logs.{within, there, then_is}
use Rattle.fl_history_rings.proofs.Words.{mate_back, slot_putter, slots_here, slot_index, slot_inside}
use Rattle.fl_history_rings.proofs.Notes.{Learns, step_holds, logs_one, logs_none, moves}
use Rattle.fl_history_rings.proofs.Changes.{part_in_put, part_here, reading_side, reading_part, reading_control, nothing_reading, learns_part, learns_loaded, learns_put, learns_found, learns_missed, learns_saw, loaded_so, learns_took}

abbrev pub Seated : Type 0
Seated = Me (Unit {0}) SeatView

-- ---- words

-- a word of a way changes, and those outside it stay
apart : (b n i y : ℕ) → b ≤ i → i < b + 8 * n → (y < b) ⊎ (b + 8 * n ≤ y) → y ≢ i
apart b n i y from below (inl before) e = omega arith
apart b n i y from below (inr behind) e = omega arith

set_frame : (b n i x : ℕ) (ws : List ℕ) → b ≤ i → i < b + 8 * n → (y : ℕ) → (y < b) ⊎ (b + 8 * n ≤ y) → get_or (set ws i x) y 0 ≡ get_or ws y 0
set_frame b n i x ws from below y outside = get_or-set_other ws i y x 0 (apart b n i y from below outside)

-- ---- what stands in a way

-- the next fragment stands first
first_waits : (sent got waiting : List Frag) (frag : Frag) → sent ≡ got ++ waiting → IsNext sent got frag → (rest : List Frag) × (waiting ≡ frag ∷ rest)
first_waits sent got waiting frag waits next =
    (next.0, append_cancel_left got waiting (frag ∷ next.0) (sym waits ∙ (next.1 ∙ append_assoc got (frag ∷ []) next.0)))

-- where the control word that was loaded hasn't the epoch due, all that was sent is got
none_wait : (c n : ℕ) (ws : List ℕ) (x y : SideView) (v : ℕ) → WayRuns c n ws y.put x.take x.take.told → v ≡ get_or ws (slot c n (length x.take.got) + 7) 0 → epoch_of v ≢ epoch_at n (length x.take.got)
    → (left : List Frag) → y.put.sent ≡ x.take.got ++ left → left ≡ []
none_wait c n ws x y v h is other [] all = refl
none_wait c n ws x y v h is other (frag ∷ rest) all =
    let more : length x.take.got < length y.put.sent = omega (arith, ap length all, length-append x.take.got (frag ∷ rest)) in
    absurd (other (ap epoch_of is ∙ h.holds.marked.full (length x.take.got) h.told_got more))

more_got : (got rest waiting : List Frag) (frag : Frag) → waiting ≡ frag ∷ rest → got ++ waiting ≡ (got ++ frag ∷ []) ++ rest
more_got got rest waiting frag is = ap (λ (l : List Frag). got ++ l) is ∙ sym (append_assoc got (frag ∷ []) rest)

-- the two sides of the ring of side s, and how its ways stand
pub record TheRing (ends : List SideEnd) (ws : List ℕ) (cores : List CoreView) (held : Holds ends ws cores) (s : ℕ) (end : SideEnd) : Type 0 where
  pub x : SideView
  pub y : SideView
  pub p : Way
  pub q : Way
  pub here : get_elem? held.sides s ≡ some x
  pub across : get_elem? held.sides (mate s) ≡ some y
  pub stood : get_elem? held.queues s ≡ some p
  pub stood_back : get_elem? held.queues (mate s) ≡ some q
  pub lies : Lies (first_word ends s) (first_word ends (mate s)) end.slots ws x y p q

module _ (ends : List SideEnd) (slots id s : ℕ) (end : SideEnd) (at : get_elem? ends s ≡ some end) (core : ℕ) (did : List Entry) (mine : end.core ≡ core) where
  abbrev b : ℕ
  b = first_word ends s

  abbrev c : ℕ
  c = first_word ends (mate s)

  abbrev n : ℕ
  n = end.slots

  abbrev seen : Insight → CoreView
  seen i = view_of ends core did i

  abbrev done : Action → Insight → CoreView
  done d i = view_of ends core (did ++ entry core s d ∷ []) i

  ring_there : (ws : List ℕ) (cores : List CoreView) (held : Holds ends ws cores) → TheRing ends ws cores held s end
  ring_there ws cores held =
      let low = within ends s end at in
      let other = held.paired s end at in
      let far = within ends (mate s) other.0 other.1 in
      let sides = held.many_sides in
      let queues = held.many in
      let x = there held.sides s (omega (arith, low, sides)) in
      let y = there held.sides (mate s) (omega (arith, far, sides)) in
      let p = there held.queues s (omega (arith, low, queues)) in
      let q = there held.queues (mate s) (omega (arith, far, queues)) in
      record {
        x = x.0;
        y = y.0;
        p = p.0;
        q = q.0;
        here = x.1;
        across = y.1;
        stood = p.1;
        stood_back = q.1;
        lies = held.lie s end x.0 y.0 p.0 q.0 at x.1 y.1 p.1 q.1;
      }

  module _ (a : Account) (ws ws' : List ℕ) (i : Insight) (fits : Fits a id (one_core (seen i))) (held : Held ends ws a) (t : TheRing ends ws a.cores held s end) (x' : SideView) (p' q' : Way)
      (lies : Lies b c n ws' x' t.y p' q') (long : length ws' ≡ length ws) (elsewhere : (z : ℕ) → (z < b) ⊎ (b + 8 * n ≤ z) → get_or ws' z 0 ≡ get_or ws z 0) where
    -- the core's step that isn't noted
    goes_quietly : (i' : Insight) (Then : SeatView → Type 0) → p' ≡ t.p → q' ≡ t.q → Learns s (seen i) (seen i') t.x x' → Then (one_core (seen i')) → Moves Fits (Held ends) a id ws' Then
    goes_quietly i' Then same same_back knows told =
        let f = fits zero (seen i) refl in
        let lies_so : Lies b c n ws' x' t.y t.p t.q = subst (λ (z : Way). Lies b c n ws' x' t.y z t.q) same (subst (λ (z : Way). Lies b c n ws' x' t.y p' z) same_back lies) in
        moves ends a id ws' (seen i) (seen i') Then fits refl
        (step_holds ends ws a.cores held (seen i) f.0 s end at mine t.x x' t.y t.p t.q t.p t.q t.here t.across ws' (seen i') held.log held.queues (logs_none ends ws a.cores held (seen i) f.0 s end at mine t.p t.q t.stood t.stood_back) knows lies_so long elsewhere)
        told

    -- and one that is
    goes_noted : (d : Action) (i' : Insight) (Then : SeatView → Type 0) → Does n t.p t.q d p' q' → Learns s (seen i) (done d i') t.x x' → Then (one_core (done d i')) → Moves Fits (Held ends) a id ws' Then
    goes_noted d i' Then does knows told =
        let f = fits zero (seen i) refl in
        moves ends a id ws' (seen i) (done d i') Then fits refl
        (step_holds ends ws a.cores held (seen i) f.0 s end at mine t.x x' t.y t.p t.q p' q' t.here t.across ws' (done d i') (held.log ++ entry core s d ∷ []) (set (set held.queues s p') (mate s) q')
        (logs_one ends ws a.cores held (seen i) f.0 s end at mine t.p t.q t.stood t.stood_back d p' q' does) knows lies long elsewhere)
        told

  -- what the core knows of its side is so
  as_side : (a : Account) (ws : List ℕ) (i : Insight) → Fits a id (one_core (seen i)) → (held : Held ends ws a) (x : SideView) → get_elem? held.sides s ≡ some x → KnowsSide s (seen i) x
  as_side a ws i fits held x here = (held.knows core (seen i) (fits zero (seen i) refl).0).knows s end x at mine here

  -- ---- what is put

  -- a payload word is found
  module _ (p : List ℕ) (small : length p < 7) (i : ℕ) (is : i ≡ slot b n (length (puts_at s did)) + length p) where
    found_moves : (ws : List ℕ) (a : Account) → Fits a id (one_core (seen (put_insight s p))) → Held ends ws a
        → Moves Fits (Held ends) a id ws (λ v. finds_word (step slots i 0 0 none) (alone (seen (put_insight s p))) (get_or ws i 0) (v, []))
    found_moves ws a fits held =
        let t = ring_there ws a.cores held in
        let lies = t.lies in
        let knows : KnowsSide s (seen (put_insight s p)) t.x = as_side a ws (put_insight s p) fits held t.x t.here in
        let part : t.x.put.part ≡ p = knows.part_is ∙ part_here s p in
        let v : ℕ = get_or ws i 0 in
        let word : i ≡ slot b n (length t.x.put.sent) + length t.x.put.part =
        is ∙ ap (λ (l : List Frag). slot b n (length l) + length p) (sym knows.sent_is) ∙ ap (λ (l : List ℕ). slot b n (length t.x.put.sent) + length l) (sym part) in
        let here : putter_of ends i ≡ s = slot_putter ends s end at i (length (puts_at s did)) (length p) lies.runs.there.holds.marked.some (omega (arith, small)) is in
        goes_quietly a ws ws (put_insight s p) fits held t (side_found t.x v) t.p t.q
        (record {
          runs = both_found b c n 0 ws t.x t.y v lies.runs (let long : length t.x.put.part ≡ length p = ap length part in omega (arith, long, small)) (ap (λ (j : ℕ). get_or ws j 0) word);
          there = record { waits = lies.there.waits; taken_is = lies.there.taken_is; told_is = lies.there.told_is };
          back = record { waits = lies.back.waits; taken_is = lies.back.taken_is; told_is = lies.back.told_is };
        }) refl (λ z outside. refl) (Writing s (p ++ v ∷ [])) (λ w. finds_word (step slots i 0 0 none) (alone (seen (put_insight s p))) v (w, [])) refl refl
        (learns_part ends core s did t.x p (p ++ v ∷ []) (with_found t.x.put v) refl refl (λ e. ap (λ (l : List ℕ). l ++ v ∷ []) e))
        (ap (λ (z : ℕ). alone (seen (Writing z (p ++ v ∷ [])))) (sym here) ∙ ap (λ (l : List ℕ). alone (seen (Writing (putter_of ends i) (l ++ v ∷ [])))) (sym (part_in_put s p)))

    pub allows_found : (me : Seated) → me ≡ alone (seen (put_insight s p)) → Allows (RingsHold ends) slots id me i (λ x. x) (finds_word (step slots i 0 0 none) me)
    allows_found me is_me =
        subst (λ (m : Seated). Allows (RingsHold ends) slots id m i (λ x. x) (finds_word (step slots i 0 0 none) m)) (sym is_me)
        (allows_load Fits (Held ends) slots id i (alone (seen (put_insight s p))) (finds_word (step slots i 0 0 none) (alone (seen (put_insight s p)))) found_moves)

  -- a number is stored
  module _ (p : List ℕ) (j v : ℕ) (few : j ≤ length p) (small : j < 7) (room : length (puts_at s did) < known_at s did + n) (i : ℕ) (is : i ≡ slot b n (length (puts_at s did)) + j) where
    stored_moves : (ws : List ℕ) (a : Account) → Fits a id (one_core (seen (put_insight s p))) → Held ends ws a
        → Moves Fits (Held ends) a id (set ws i v) (λ w. stores_word (step slots i v 0 none) (alone (seen (put_insight s p))) v (w, []))
    stored_moves ws a fits held =
        let t = ring_there ws a.cores held in
        let lies = t.lies in
        let knows : KnowsSide s (seen (put_insight s p)) t.x = as_side a ws (put_insight s p) fits held t.x t.here in
        let part : t.x.put.part ≡ p = knows.part_is ∙ part_here s p in
        let any = lies.runs.there.holds.marked.some in
        let sent : length t.x.put.sent ≡ length (puts_at s did) = ap length knows.sent_is in
        let known : t.x.put.known ≡ known_at s did = knows.known_is in
        let length_is : length t.x.put.part ≡ length p = ap length part in
        let word : i ≡ slot b n (length t.x.put.sent) + j = is ∙ ap (λ (l : List Frag). slot b n (length l) + j) (sym knows.sent_is) in
        let here : putter_of ends i ≡ s = slot_putter ends s end at i (length (puts_at s did)) j any (omega (arith, small)) is in
        let inside = slot_inside b n (length (puts_at s did)) j i any (omega (arith, small)) is in
        let index : (i - first_word ends (putter_of ends i)) % 8 ≡ j = ap (λ (z : ℕ). (i - first_word ends z) % 8) here ∙ slot_index b n (length (puts_at s did)) j i (omega (arith, small)) is in
        goes_quietly a ws (set ws i v) (put_insight s p) fits held t (side_stored t.x j v) t.p t.q
        (record {
          runs = subst (λ (z : ℕ). BothRun (ways b c n 0) (set ws z v) (side_stored t.x j v) t.y) (sym word) (both_stored b c n 0 ws t.x t.y j v lies.runs (omega (arith, sent, known, room)) (omega (arith, length_is, few)) small);
          there = record { waits = lies.there.waits; taken_is = lies.there.taken_is; told_is = lies.there.told_is };
          back = record { waits = lies.back.waits; taken_is = lies.back.taken_is; told_is = lies.back.told_is };
        }) (length-set ws i v) (set_frame b n i v ws inside.0 inside.1) (Writing s (take j p ++ v ∷ [])) (λ w. stores_word (step slots i v 0 none) (alone (seen (put_insight s p))) v (w, [])) refl refl
        (learns_part ends core s did t.x p (take j p ++ v ∷ []) (with_stored t.x.put j v) refl refl (λ e. ap (λ (l : List ℕ). take j l ++ v ∷ []) e))
        (ap (λ (z : ℕ). alone (seen (Writing z (take j p ++ v ∷ [])))) (sym here)
        ∙ ap (λ (z : ℕ). alone (seen (Writing (putter_of ends i) (take z p ++ v ∷ [])))) (sym index)
        ∙ ap (λ (l : List ℕ). alone (seen (Writing (putter_of ends i) (take ((i - first_word ends (putter_of ends i)) % 8) l ++ v ∷ [])))) (sym (part_in_put s p)))

    pub allows_stored : (me : Seated) → me ≡ alone (seen (put_insight s p)) → Allows (RingsHold ends) slots id me i (λ _. v) (λ _. stores_word (step slots i v 0 none) me v)
    allows_stored me is_me =
        subst (λ (m : Seated). Allows (RingsHold ends) slots id m i (λ _. v) (λ _. stores_word (step slots i v 0 none) m v)) (sym is_me)
        (allows_by Fits (Held ends) slots id i (alone (seen (put_insight s p))) (λ _. v) (λ _. stores_word (step slots i v 0 none) (alone (seen (put_insight s p))) v) stored_moves)

  -- the control word is stored: the fragment is put, and all that was taken is acknowledged
  module _ (p : List ℕ) (v : ℕ) (seven : length p ≡ 7) (room : length (puts_at s did) < known_at s did + n) (unspent : length (puts_at s did) < 2 ^ 62) (turn : epoch_of v ≡ epoch_at n (length (puts_at s did)))
      (number : told_of v ≡ length (takes_at s did) % 65536) (i : ℕ) (is : i ≡ slot b n (length (puts_at s did)) + 7) where
    put_moves : (ws : List ℕ) (a : Account) → Fits a id (one_core (seen (put_insight s p))) → Held ends ws a
        → Moves Fits (Held ends) a id (set ws i v) (λ w. stores_control (step slots i v 0 none) (alone (seen (put_insight s p))) v (w, []))
    put_moves ws a fits held =
        let t = ring_there ws a.cores held in
        let lies = t.lies in
        let knows : KnowsSide s (seen (put_insight s p)) t.x = as_side a ws (put_insight s p) fits held t.x t.here in
        let part : t.x.put.part ≡ p = knows.part_is ∙ part_here s p in
        let any = lies.runs.there.holds.marked.some in
        let frag : Frag = frag_from p v in
        let sent : length t.x.put.sent ≡ length (puts_at s did) = ap length knows.sent_is in
        let known : t.x.put.known ≡ known_at s did = knows.known_is in
        let free : length t.x.put.sent < t.x.put.known + n = omega (arith, sent, known, room) in
        let word : i ≡ slot b n (length t.x.put.sent) + 7 = is ∙ ap (λ (l : List Frag). slot b n (length l) + 7) (sym knows.sent_is) in
        let here : putter_of ends i ≡ s = slot_putter ends s end at i (length (puts_at s did)) 7 any (omega arith) is in
        let inside = slot_inside b n (length (puts_at s did)) 7 i any (omega arith) is in
        let due : epoch_of v ≡ epoch_at n (length t.x.put.sent) = turn ∙ ap (λ (l : List Frag). epoch_at n (length l)) (sym knows.sent_is) in
        let tells : told_of v ≡ length t.x.take.got % 65536 = number ∙ ap (λ (l : List Frag). length l % 65536) (sym knows.got_is) in
        let taken = lies.there.taken_is in
        let told = lies.there.told_is in
        let near = lies.runs.there.known_told in
        let all : length t.x.put.sent ≡ length t.y.take.got + length t.p.waiting = ap length lies.there.waits ∙ length-append t.y.take.got t.p.waiting in
        goes_noted a ws (set ws i v) (put_insight s p) fits held t (side_put t.x v) (way_with (t.p.waiting ++ frag ∷ []) t.p.taken t.p.told) (way_with t.q.waiting t.q.taken t.q.taken)
        (record {
          runs = subst (λ (z : ℕ). BothRun (ways b c n 0) (set ws z v) (side_put t.x v) t.y) (sym word) (both_put b c n 0 ws t.x t.y v lies.runs free (ap length part ∙ seven) (omega (arith, sent, unspent)) due tells);
          there = record {
            waits = ap (λ (l : List Frag). l ++ frag_from t.x.put.part v ∷ []) lies.there.waits ∙ append_assoc t.y.take.got t.p.waiting (frag_from t.x.put.part v ∷ [])
                ∙ ap (λ (z : List ℕ). t.y.take.got ++ (t.p.waiting ++ frag_from z v ∷ [])) part;
            taken_is = taken;
            told_is = told;
          };
          back = record { waits = lies.back.waits; taken_is = lies.back.taken_is; told_is = lies.back.taken_is };
        }) (length-set ws i v) (set_frame b n i v ws inside.0 inside.1) (Put frag) Nothing (λ w. stores_control (step slots i v 0 none) (alone (seen (put_insight s p))) v (w, []))
        (omega (arith, taken, told, near, all, free), tells ∙ ap (λ (z : ℕ). z % 65536) (sym lies.back.taken_is), refl, refl)
        (learns_put ends core s did t.x p v)
        (ap (λ (z : ℕ). alone (view_of ends core (did ++ entry core z (Put frag) ∷ []) Nothing)) (sym here)
        ∙ ap (λ (l : List ℕ). alone (view_of ends core (did ++ entry core (putter_of ends i) (Put (frag_from l v)) ∷ []) Nothing)) (sym (part_in_put s p)))

    pub allows_put : (me : Seated) → me ≡ alone (seen (put_insight s p)) → Allows (RingsHold ends) slots id me i (λ _. v) (λ _. stores_control (step slots i v 0 none) me v)
    allows_put me is_me =
        subst (λ (m : Seated). Allows (RingsHold ends) slots id m i (λ _. v) (λ _. stores_control (step slots i v 0 none) m v)) (sym is_me)
        (allows_by Fits (Held ends) slots id i (alone (seen (put_insight s p))) (λ _. v) (λ _. stores_control (step slots i v 0 none) (alone (seen (put_insight s p))) v) put_moves)

  -- ---- what is taken

  -- the side that takes from the way of a word of the other side's slots
  taker_here : (ws : List ℕ) (cores : List CoreView) (held : Holds ends ws cores) (i m k : ℕ) → 0 < n → k < 8 → i ≡ slot c n m + k → mate (putter_of ends i) ≡ s
  taker_here ws cores held i m k any small is =
      let other = held.paired s end at in
      let same : n ≡ other.0.slots = sym other.2 in
      ap mate (slot_putter ends (mate s) other.0 other.1 i m k (omega (arith, any, same)) small (is ∙ ap (λ (z : ℕ). slot c z m + k) same)) ∙ mate_back s

  -- the control word is loaded, for a fragment or for room
  module _ (i : ℕ) (is : i ≡ slot c n (length (takes_at s did)) + 7) where
    module _ (ws : List ℕ) (a : Account) (fits : Fits a id (one_core (seen Nothing))) (held : Held ends ws a) where
      abbrev ring : TheRing ends ws a.cores held s end
      ring = ring_there ws a.cores held

      abbrev v : ℕ
      v = get_or ws i 0

      knows : KnowsSide s (seen Nothing) ring.x
      knows = as_side a ws Nothing fits held ring.x ring.here

      there_is : v ≡ get_or ws (slot c n (length ring.x.take.got) + 7) 0
      there_is = ap (λ (j : ℕ). get_or ws j 0) (is ∙ ap (λ (l : List Frag). slot c n (length l) + 7) (sym knows.got_is))

      here : mate (putter_of ends i) ≡ s
      here = taker_here ws a.cores held i (length (takes_at s did)) 7 ring.lies.runs.there.holds.marked.some (omega arith) is

      due_is : due_at ends (mate (putter_of ends i)) did ≡ epoch_at n (length ring.x.take.got)
      due_is =
          ap (λ (z : ℕ). due_at ends z did) here ∙ ap (λ (m : ℕ). epoch_at m (length (takes_at s did))) (slots_here ends s end at) ∙ ap (λ (l : List Frag). epoch_at n (length l)) (sym knows.got_is)

      -- what is known then was put
      sent_so : CountsSent (step slots i 0 0 none) (one_core (seen Nothing)) v
      sent_so = λ due.
          let told : known_by n ring.x v ≡ count_from ring.x.put.known (told_of v) = then_is (epoch_of v == epoch_at n (length ring.x.take.got)) (count_from ring.x.put.known (told_of v)) ring.x.put.known (eq-eqb (epoch_of v) (epoch_at n (length ring.x.take.got)) (due ∙ due_is)) in
          let so : count_from ring.x.put.known (told_of v) ≤ length ring.x.put.sent = subst (λ (z : ℕ). z ≤ length ring.x.put.sent) told (known_sent b c n 0 ws ring.x ring.y v ring.lies.runs there_is) in
          subst (λ (z : ℕ). count_from (known_at z did) (told_of v) ≤ length (puts_at z did)) (sym here)
          (subst (λ (z : ℕ). count_from z (told_of v) ≤ length (puts_at s did)) knows.known_is (subst (λ (l : List Frag). count_from ring.x.put.known (told_of v) ≤ length l) knows.sent_is so))

      -- what was seen stands there
      seen_so : IsSeenControl (step slots i 0 0 none) (one_core (seen Nothing)) v
      seen_so = λ frag was.
          let peeked : ring.x.take.peeked ≡ Some frag = knows.peeked_is ∙ (ap (λ (z : ℕ). seen_at z did) (sym here) ∙ was) in
          let stands = both_peeked_there b c n 0 ws ring.x ring.y v ring.lies.runs there_is frag peeked in
          (stands.0 ∙ sym due_is, stands.1)

      lies' : Lies b c n ws (side_control n ring.x v) ring.y ring.p ring.q
      lies' = record {
        runs = both_control b c n 0 ws ring.x ring.y v ring.lies.runs there_is;
        there = record { waits = ring.lies.there.waits; taken_is = ring.lies.there.taken_is; told_is = ring.lies.there.told_is };
        back = record { waits = ring.lies.back.waits; taken_is = ring.lies.back.taken_is; told_is = ring.lies.back.told_is };
      }

      first_there : epoch_of v ≡ epoch_at n (length ring.x.take.got) → Does n ring.p ring.q (Found v) ring.p ring.q
      first_there due =
          let l : IsLoaded ring.y.put.sent ring.x.take.got [] v = seen_due c n ws ring.y.put ring.x.take ring.x.take.told v ring.lies.runs.back there_is due in
          let first = first_waits ring.y.put.sent ring.x.take.got ring.q.waiting l.frag ring.lies.back.waits l.next in
          (l.frag, first.0, first.1, l.control, refl, refl)

      none_there : epoch_of v ≢ epoch_at n (length ring.x.take.got) → Does n ring.p ring.q Missed ring.p ring.q
      none_there other = (none_wait c n ws ring.x ring.y v ring.lies.runs.back there_is other ring.q.waiting ring.lies.back.waits, refl, refl)

    look_moves : (ws : List ℕ) (a : Account) → Fits a id (one_core (seen Nothing)) → Held ends ws a
        → Moves Fits (Held ends) a id ws (λ w. looks (step slots i 0 0 none) (alone (seen Nothing)) (get_or ws i 0) (w, []))
    look_moves ws a fits held =
        let r = ring_there ws a.cores held in
        let x : ℕ = get_or ws i 0 in
        let so = due_is ws a fits held in
        let at_side = here ws a fits held in
        let Then : SeatView → Type 0 = λ w. looks (step slots i 0 0 none) (alone (seen Nothing)) x (w, []) in
        dite (ℕ_discrete (epoch_of x) (epoch_at n (length r.x.take.got)))
        (λ due.
        goes_noted a ws ws Nothing fits held r (side_control n r.x x) r.p r.q (lies' ws a fits held) refl (λ z outside. refl) (Found x) (Reading s [] x) Then (first_there ws a fits held due)
        (learns_found ends core s did r.x n x (Reading s [] x) due refl (λ j ne. refl) (λ j q d e. (sym (reading_side s j x d [] q e), sym (reading_part s j x d [] q e), sym (reading_control s j x d [] q e))))
        (sent_so ws a fits held, (λ _. ap (λ (z : ℕ). alone (view_of ends core (did ++ entry core z (Found x) ∷ []) (Reading z [] x))) (sym at_side)), (λ no. absurd (no (due ∙ sym so))), seen_so ws a fits held))
        (λ other.
        goes_noted a ws ws Nothing fits held r (side_control n r.x x) r.p r.q (lies' ws a fits held) refl (λ z outside. refl) Missed Nothing Then (none_there ws a fits held other) (learns_missed ends core s did r.x n x other)
        (sent_so ws a fits held, (λ due. absurd (other (due ∙ so))), (λ _. ap (λ (z : ℕ). alone (view_of ends core (did ++ entry core z Missed ∷ []) Nothing)) (sym at_side)), seen_so ws a fits held))

    pub allows_look : (me : Seated) → me ≡ alone (seen Nothing) → Allows (RingsHold ends) slots id me i (λ x. x) (looks (step slots i 0 0 none) me)
    allows_look me is_me =
        subst (λ (m : Seated). Allows (RingsHold ends) slots id m i (λ x. x) (looks (step slots i 0 0 none) m)) (sym is_me)
        (allows_load Fits (Held ends) slots id i (alone (seen Nothing)) (looks (step slots i 0 0 none) (alone (seen Nothing))) look_moves)

    count_moves : (ws : List ℕ) (a : Account) → Fits a id (one_core (seen Nothing)) → Held ends ws a
        → Moves Fits (Held ends) a id ws (λ w. counts (step slots i 0 0 none) (alone (seen Nothing)) (get_or ws i 0) (w, []))
    count_moves ws a fits held =
        let r = ring_there ws a.cores held in
        let x : ℕ = get_or ws i 0 in
        let so = due_is ws a fits held in
        let at_side = here ws a fits held in
        let Then : SeatView → Type 0 = λ w. counts (step slots i 0 0 none) (alone (seen Nothing)) x (w, []) in
        dite (ℕ_discrete (epoch_of x) (epoch_at n (length r.x.take.got)))
        (λ due.
        goes_noted a ws ws Nothing fits held r (side_control n r.x x) r.p r.q (lies' ws a fits held) refl (λ z outside. refl) (Found x) Nothing Then (first_there ws a fits held due)
        (learns_found ends core s did r.x n x Nothing due refl (λ j ne. refl) (λ j q d e. absurd (nothing_reading j q d e)))
        (sent_so ws a fits held, (λ _. ap (λ (z : ℕ). alone (view_of ends core (did ++ entry core z (Found x) ∷ []) Nothing)) (sym at_side)), (λ no. absurd (no (due ∙ sym so))), seen_so ws a fits held))
        (λ other.
        goes_noted a ws ws Nothing fits held r (side_control n r.x x) r.p r.q (lies' ws a fits held) refl (λ z outside. refl) Missed Nothing Then (none_there ws a fits held other) (learns_missed ends core s did r.x n x other)
        (sent_so ws a fits held, (λ due. absurd (other (due ∙ so))), (λ _. ap (λ (z : ℕ). alone (view_of ends core (did ++ entry core z Missed ∷ []) Nothing)) (sym at_side)), seen_so ws a fits held))

    pub allows_count : (me : Seated) → me ≡ alone (seen Nothing) → Allows (RingsHold ends) slots id me i (λ x. x) (counts (step slots i 0 0 none) me)
    allows_count me is_me =
        subst (λ (m : Seated). Allows (RingsHold ends) slots id m i (λ x. x) (counts (step slots i 0 0 none) m)) (sym is_me)
        (allows_load Fits (Held ends) slots id i (alone (seen Nothing)) (counts (step slots i 0 0 none) (alone (seen Nothing))) count_moves)

  -- payload words of the fragment that was found are loaded
  module _ (p : List ℕ) (x0 : ℕ) (due : epoch_of x0 ≡ epoch_at n (length (takes_at s did))) (i : ℕ) (is : i ≡ slot c n (length (takes_at s did)) + length p) where
    abbrev has : Insight
    has = Reading s p x0

    is_due : (x : SideView) → KnowsSide s (seen has) x → IsDue n x.take
    is_due x knows = ap epoch_of (knows.loaded p x0 refl).1 ∙ due ∙ ap (λ (l : List Frag). epoch_at n (length l)) (sym knows.got_is)

    word_is : (x : SideView) → KnowsSide s (seen has) x → i ≡ slot c n (length x.take.got) + length x.take.part
    word_is x knows =
        is ∙ ap (λ (l : List Frag). slot c n (length l) + length p) (sym knows.got_is) ∙ ap (λ (l : List ℕ). slot c n (length x.take.got) + length l) (sym (knows.loaded p x0 refl).0)

    loaded_moves : length p < 6 → (ws : List ℕ) (a : Account) → Fits a id (one_core (seen has)) → Held ends ws a
        → Moves Fits (Held ends) a id ws (λ w. loads_word (step slots i 0 0 none) (alone (seen has)) (get_or ws i 0) (w, []))
    loaded_moves small ws a fits held =
        let t = ring_there ws a.cores held in
        let lies = t.lies in
        let knows : KnowsSide s (seen has) t.x = as_side a ws has fits held t.x t.here in
        let v : ℕ = get_or ws i 0 in
        let part : t.x.take.part ≡ p = (knows.loaded p x0 refl).0 in
        let here : mate (putter_of ends i) ≡ s = taker_here ws a.cores held i (length (takes_at s did)) (length p) lies.runs.there.holds.marked.some (omega (arith, small)) is in
        goes_quietly a ws ws has fits held t (side_loaded t.x v) t.p t.q
        (record {
          runs = both_loaded b c n 0 ws t.x t.y v lies.runs (is_due t.x knows) (let long : length t.x.take.part ≡ length p = ap length part in omega (arith, long, small)) (ap (λ (j : ℕ). get_or ws j 0) (word_is t.x knows));
          there = record { waits = lies.there.waits; taken_is = lies.there.taken_is; told_is = lies.there.told_is };
          back = record { waits = lies.back.waits; taken_is = lies.back.taken_is; told_is = lies.back.told_is };
        }) refl (λ z outside. refl) (Reading s (p ++ v ∷ []) x0) (λ w. loads_word (step slots i 0 0 none) (alone (seen has)) v (w, [])) refl refl
        (learns_loaded ends core s did t.x p x0 v)
        (ap (λ (z : ℕ). alone (seen (Reading z (p ++ v ∷ []) x0))) (sym here))

    pub allows_loaded : length p < 6 → (me : Seated) → me ≡ alone (seen has) → Allows (RingsHold ends) slots id me i (λ x. x) (loads_word (step slots i 0 0 none) me)
    allows_loaded small me is_me =
        subst (λ (m : Seated). Allows (RingsHold ends) slots id m i (λ x. x) (loads_word (step slots i 0 0 none) m)) (sym is_me)
        (allows_load Fits (Held ends) slots id i (alone (seen has)) (loads_word (step slots i 0 0 none) (alone (seen has))) (loaded_moves small))

    -- with the seventh the fragment is seen, or taken
    module _ (six : length p ≡ 6) where
      seventh : (x : SideView) (ws : List ℕ) → KnowsSide s (seen has) x → get_or ws i 0 ≡ get_or ws (slot c n (length x.take.got) + 6) 0
      seventh x ws knows = ap (λ (j : ℕ). get_or ws j 0) (word_is x knows ∙ ap (λ (m : ℕ). slot c n (length x.take.got) + m) (ap length (knows.loaded p x0 refl).0 ∙ six))

      -- it is the one that was seen before
      again : {ws : List ℕ} {cores : List CoreView} {held : Holds ends ws cores} (t : TheRing ends ws cores held s end) → BothRun (ways b c n 0) ws t.x t.y → KnowsSide s (seen has) t.x → (v : ℕ) → mate (putter_of ends i) ≡ s
          → v ≡ get_or ws (slot c n (length t.x.take.got) + 6) 0 → IsSeenFrag (step slots i 0 0 none) (one_core (seen has)) v
      again {ws} t runs knows v here is_there frag was =
          let peeked : t.x.take.peeked ≡ Some frag = knows.peeked_is ∙ (ap (λ (z : ℕ). seen_at z did) (sym here) ∙ was) in
          let whole : length t.x.take.part ≡ 6 = ap length (knows.loaded p x0 refl).0 ∙ six in
          sym (loaded_so ends core s did t.x p x0 v knows) ∙ both_again b c n 0 ws t.x t.y v runs (is_due t.x knows) whole is_there frag peeked

      saw_moves : (ws : List ℕ) (a : Account) → Fits a id (one_core (seen has)) → Held ends ws a
          → Moves Fits (Held ends) a id ws (λ w. sees_frag (step slots i 0 0 none) (alone (seen has)) (get_or ws i 0) (w, []))
      saw_moves ws a fits held =
          let t = ring_there ws a.cores held in
          let lies = t.lies in
          let knows : KnowsSide s (seen has) t.x = as_side a ws has fits held t.x t.here in
          let v : ℕ = get_or ws i 0 in
          let whole : length t.x.take.part ≡ 6 = ap length (knows.loaded p x0 refl).0 ∙ six in
          let frag : Frag = frag_from (p ++ v ∷ []) x0 in
          let next : IsNext t.y.put.sent t.x.take.got (loaded_frag t.x.take v) = loaded_whole c n ws t.y.put t.x.take t.x.take.told v lies.runs.back (is_due t.x knows) whole (seventh t.x ws knows) in
          let first = first_waits t.y.put.sent t.x.take.got t.q.waiting frag lies.back.waits (subst (λ (f : Frag). IsNext t.y.put.sent t.x.take.got f) (loaded_so ends core s did t.x p x0 v knows) next) in
          let here : mate (putter_of ends i) ≡ s = taker_here ws a.cores held i (length (takes_at s did)) (length p) lies.runs.there.holds.marked.some (omega (arith, six)) is in
          goes_noted a ws ws has fits held t (side_peeked t.x v) t.p t.q
          (record {
            runs = both_peeked b c n 0 ws t.x t.y v lies.runs (is_due t.x knows) whole (seventh t.x ws knows);
            there = record { waits = lies.there.waits; taken_is = lies.there.taken_is; told_is = lies.there.told_is };
            back = record { waits = lies.back.waits; taken_is = lies.back.taken_is; told_is = lies.back.told_is };
          }) refl (λ z outside. refl) (Saw frag) Nothing (λ w. sees_frag (step slots i 0 0 none) (alone (seen has)) v (w, []))
          (first.0, first.1, refl, refl)
          (learns_saw ends core s did t.x p x0 v)
          (ap (λ (z : ℕ). alone (view_of ends core (did ++ entry core z (Saw frag) ∷ []) Nothing)) (sym here), again t lies.runs knows v here (seventh t.x ws knows))

      pub allows_saw : (me : Seated) → me ≡ alone (seen has) → Allows (RingsHold ends) slots id me i (λ x. x) (sees_frag (step slots i 0 0 none) me)
      allows_saw me is_me =
          subst (λ (m : Seated). Allows (RingsHold ends) slots id m i (λ x. x) (sees_frag (step slots i 0 0 none) m)) (sym is_me)
          (allows_load Fits (Held ends) slots id i (alone (seen has)) (sees_frag (step slots i 0 0 none) (alone (seen has))) saw_moves)

      took_moves : (ws : List ℕ) (a : Account) → Fits a id (one_core (seen has)) → Held ends ws a
          → Moves Fits (Held ends) a id ws (λ w. takes_frag (step slots i 0 0 none) (alone (seen has)) (get_or ws i 0) (w, []))
      took_moves ws a fits held =
          let t = ring_there ws a.cores held in
          let lies = t.lies in
          let knows : KnowsSide s (seen has) t.x = as_side a ws has fits held t.x t.here in
          let v : ℕ = get_or ws i 0 in
          let whole : length t.x.take.part ≡ 6 = ap length (knows.loaded p x0 refl).0 ∙ six in
          let frag : Frag = frag_from (p ++ v ∷ []) x0 in
          let so : loaded_frag t.x.take v ≡ frag = loaded_so ends core s did t.x p x0 v knows in
          let next : IsNext t.y.put.sent t.x.take.got (loaded_frag t.x.take v) = loaded_whole c n ws t.y.put t.x.take t.x.take.told v lies.runs.back (is_due t.x knows) whole (seventh t.x ws knows) in
          let first = first_waits t.y.put.sent t.x.take.got t.q.waiting frag lies.back.waits (subst (λ (f : Frag). IsNext t.y.put.sent t.x.take.got f) so next) in
          let few : length t.x.take.got < 2 ^ 62 = both_few b c n 0 ws t.x t.y v lies.runs (is_due t.x knows) whole (seventh t.x ws knows) in
          let here : mate (putter_of ends i) ≡ s = taker_here ws a.cores held i (length (takes_at s did)) (length p) lies.runs.there.holds.marked.some (omega (arith, six)) is in
          goes_noted a ws ws has fits held t (side_got t.x v) t.p (way_with first.0 (t.q.taken + 1) t.q.told)
          (record {
            runs = both_got b c n 0 ws t.x t.y v lies.runs (is_due t.x knows) whole (seventh t.x ws knows);
            there = record { waits = lies.there.waits; taken_is = lies.there.taken_is; told_is = lies.there.told_is };
            back = record {
              waits = lies.back.waits ∙ more_got t.x.take.got first.0 t.q.waiting frag first.1 ∙ ap (λ (f : Frag). (t.x.take.got ++ f ∷ []) ++ first.0) (sym so);
              taken_is = let taken = lies.back.taken_is in omega (arith, taken, length-append t.x.take.got (loaded_frag t.x.take v ∷ []));
              told_is = lies.back.told_is;
            };
          }) refl (λ z outside. refl) (Took frag) Nothing (λ w. takes_frag (step slots i 0 0 none) (alone (seen has)) v (w, []))
          (first.0, first.1, refl, refl)
          (learns_took ends core s did t.x p x0 v) (
            ap (λ (z : ℕ). alone (view_of ends core (did ++ entry core z (Took frag) ∷ []) Nothing)) (sym here),
            subst (λ (z : ℕ). length (takes_at z did) < 2 ^ 62) (sym here) (subst (λ (l : List Frag). length l < 2 ^ 62) knows.got_is few),
            again t lies.runs knows v here (seventh t.x ws knows),
          )

      pub allows_took : (me : Seated) → me ≡ alone (seen has) → Allows (RingsHold ends) slots id me i (λ x. x) (takes_frag (step slots i 0 0 none) me)
      allows_took me is_me =
          subst (λ (m : Seated). Allows (RingsHold ends) slots id m i (λ x. x) (takes_frag (step slots i 0 0 none) m)) (sym is_me)
          (allows_load Fits (Held ends) slots id i (alone (seen has)) (takes_frag (step slots i 0 0 none) (alone (seen has))) took_moves)

-- ---- what cores did is compared

order_of : (ends : List SideEnd) (ws : List ℕ) (cores theirs : List CoreView) → Holds ends ws cores → ((i : ℕ) (g : CoreView) → get_elem? theirs i ≡ some g → get_elem? cores g.core ≡ some g) → OneOrder ends theirs
order_of ends ws cores theirs held here = record {
  sides_are = λ i g is. (held.knows g.core g (here i g is)).sides_are;
  log = held.log;
  queues = held.queues;
  runs = held.runs;
  by_its_core = held.by_its_core;
  did = λ i g is. sym (held.knows g.core g (here i g is)).did;
}

pub allows_compare : (ends : List SideEnd) (slots id i : ℕ) (h : CoreView) (hs : List CoreView) (me : Seated) → me.0 ≡ seat_of (h ∷ hs) → Allows (RingsHold ends) slots id me i (λ x. x) (compares (step slots i 0 0 none) me)
allows_compare ends slots id i h hs me is =
    allows_load Fits (Held ends) slots id i me (compares (step slots i 0 0 none) me)
    (λ ws c fits held.
    let known : Fits c id (seat_of (h ∷ hs)) = subst (λ (v : SeatView). Fits c id v) is fits in
    let first = held.knows h.core h (known zero h refl).0 in
    let order : OneOrder ends (h ∷ hs) = order_of ends ws c.cores (h ∷ hs) held (λ j g e. (known j g e).0) in
    let its_ends : OneOrder h.sides (h ∷ hs) = subst (λ (x : List SideEnd). OneOrder x (h ∷ hs)) (sym first.sides_are) order in
    record {
      account = c;
      view = me.0;
      mine = fits;
      others = λ j u ne g. g;
      holds = held;
      tells = (refl, subst (λ (v : SeatView). OneOrder (core_of v).sides v.cores) (sym is) its_ends);
    })
