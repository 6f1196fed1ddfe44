-- The steps of a ring over shared words: what the rule allows each side.
use Rattle.std.proofs.Common.{ℕ, ◌≡◌, ◌≢◌, ◌<◌, ◌≤◌, ◌+◌, ◌*◌, ◌^◌, true, List, length, get_or, set, subst, ◌∙◌, sym, refl, arith, length-set, get_or-set_same}
use Rattle.std.proofs.Common.{get_or-set_other}
use mathlib.Core.Option.{none}
use Rattle.atomic_table.specs.Table.{Me, step, Allows}
use Rattle.fl_base.specs.Control.{epoch_of}
use Rattle.fl_link.specs.Cursor.{epoch_at}
use Rattle.fl_ring.specs.declared.shared.board.WriterView.{WriterView}
use Rattle.fl_ring.specs.declared.shared.board.ReaderView.{ReaderView}
use Rattle.fl_ring.specs.declared.shared.board.RingView.{RingView}
use Rattle.fl_ring.specs.Way.{slot}
use Rattle.fl_ring.specs.SharedWay.{IsDue, WayRuns, WayNear, with_found, with_stored, with_put, with_known, with_control, with_loaded, with_peeked, with_got, with_told}
use Rattle.fl_ring.specs.SharedRing.{Sides, Fits, RingHolds, RingRule, with_writing, with_reading, IsNextWord, IsPayloadWord, finds_word, stores_word}
use Rattle.fl_ring.specs.SharedRing.{stores_control, loads_told, loads_control, loads_word, loads_peeked, loads_taken, stores_told, compares}
use Rattle.fl_ring.proofs.Places.{slot_within}
use Rattle.fl_ring.proofs.SharedTables.{Moves, allows_by, allows_load}
use Rattle.fl_ring.proofs.SharedWays.{runs_found, runs_stored, runs_put, runs_known, runs_control, peeked_there, runs_loaded, runs_peeked, runs_got, loaded_again, got_unspent, runs_told, runs_elsewhere, front_within}

abbrev Seated : Type 0
Seated = Me (Unit {0}) RingView

abbrev Held : ℕ → List ℕ → Sides → Type 0
Held n ws s = RingHolds n ws s.put s.take

-- a word of a slot is a word of the table
pub word_in : (n i k words : ℕ) → 0 < n → k < 8 → words ≡ 8 * n + 8 → slot 0 n i + k < words
word_in n i k words some small wide = omega (arith, slot_within 0 n i some)

-- ---- who moves

writer_moves : (n id : ℕ) (ws : List ℕ) (s : Sides) (v : RingView) (w : WriterView) (Then : RingView → Type 0) → v.writes ≡ true → Fits n s id v → RingHolds n ws w s.take → Then (with_writing v w)
    → Moves (Fits n) (Held n) s id ws Then
writer_moves n id ws s v w Then writes fits holds tells = record {
  account = record { writer = s.writer; reader = s.reader; put = w; take = s.take };
  view = with_writing v w;
  mine = ((λ e. let f = fits.0 writes in (f.0, refl, f.2)), (λ e. fits.1 e));
  others = λ j u ne f. ((λ e. absurd (ne ((f.0 e).0 ∙ sym (fits.0 writes).0))), (λ e. f.1 e));
  holds = holds;
  tells = tells;
}

reader_moves : (n id : ℕ) (ws : List ℕ) (s : Sides) (v : RingView) (r : ReaderView) (Then : RingView → Type 0) → v.reads ≡ true → Fits n s id v → RingHolds n ws s.put r → Then (with_reading v r)
    → Moves (Fits n) (Held n) s id ws Then
reader_moves n id ws s v r Then reads fits holds tells = record {
  account = record { writer = s.writer; reader = s.reader; put = s.put; take = r };
  view = with_reading v r;
  mine = ((λ e. fits.0 e), (λ e. let f = fits.1 reads in (f.0, refl, f.2)));
  others = λ j u ne f. ((λ e. f.0 e), (λ e. absurd (ne ((f.1 e).0 ∙ sym (fits.1 reads).0))));
  holds = holds;
  tells = tells;
}

-- what the writer knows is so
as_writer : (n id : ℕ) (ws : List ℕ) (s : Sides) (v : RingView) → v.writes ≡ true → Fits n s id v → Held n ws s → RingHolds n ws v.put s.take
as_writer n id ws s v writes fits held = subst (λ (w : WriterView). RingHolds n ws w s.take) (sym (fits.0 writes).1) held

as_reader : (n id : ℕ) (ws : List ℕ) (s : Sides) (v : RingView) → v.reads ≡ true → Fits n s id v → Held n ws s → RingHolds n ws s.put v.take
as_reader n id ws s v reads fits held = subst (λ (r : ReaderView). RingHolds n ws s.put r) (sym (fits.1 reads).1) held

-- ---- the words

-- a word of a slot changes: the number told stays
told_stays : (n i k x : ℕ) (ws : List ℕ) → 0 < n → k < 8 → get_or (set ws (slot 0 n i + k) x) (8 * n) 0 ≡ get_or ws (8 * n) 0
told_stays n i k x ws some small =
    let inside = slot_within 0 n i some in
    let ne : 8 * n ≢ slot 0 n i + k = λ e. omega arith in
    get_or-set_other ws (slot 0 n i + k) (8 * n) x 0 ne

holds_found : (n x : ℕ) (ws : List ℕ) (w : WriterView) (r : ReaderView) → RingHolds n ws w r → length w.part < 7 → x ≡ get_or ws (slot 0 n (length w.sent) + length w.part) 0 → RingHolds n ws (with_found w x) r
holds_found n x ws w r h small is = record {
  wide = h.wide;
  way = runs_found 0 n ws w r r.told x h.way small is;
  told_is = h.told_is;
}

holds_stored : (n k x : ℕ) (ws : List ℕ) (w : WriterView) (r : ReaderView) → RingHolds n ws w r → length w.sent < w.known + n → k ≤ length w.part → k < 7
    → RingHolds n (set ws (slot 0 n (length w.sent) + k) x) (with_stored w k x) r
holds_stored n k x ws w r h room few small = record {
  wide = length-set ws (slot 0 n (length w.sent) + k) x ∙ h.wide;
  way = runs_stored 0 n ws w r r.told x k h.way room few small;
  told_is = told_stays n (length w.sent) k x ws h.way.holds.marked.some (omega arith) ∙ h.told_is;
}

holds_put : (n c : ℕ) (ws : List ℕ) (w : WriterView) (r : ReaderView) → RingHolds n ws w r → length w.sent < w.known + n → length w.part ≡ 7 → length w.sent < 2 ^ 62 → epoch_of c ≡ epoch_at n (length w.sent)
    → RingHolds n (set ws (slot 0 n (length w.sent) + 7) c) (with_put w c) r
holds_put n c ws w r h room seven unspent turn = record {
  wide = length-set ws (slot 0 n (length w.sent) + 7) c ∙ h.wide;
  way = runs_put 0 n ws w r r.told c h.way room seven unspent turn;
  told_is = told_stays n (length w.sent) 7 c ws h.way.holds.marked.some (omega arith) ∙ h.told_is;
}

holds_told : (n t : ℕ) (ws : List ℕ) (w : WriterView) (r : ReaderView) → RingHolds n ws w r → r.told ≤ t → t ≤ length r.got → RingHolds n (set ws (8 * n) t) w (with_told r t)
holds_told n t ws w r h rises most = record {
  wide = length-set ws (8 * n) t ∙ h.wide;
  way =
      let told : WayRuns 0 n ws w (with_told r t) t = runs_told 0 n ws w r r.told t h.way rises most in
      runs_elsewhere 0 n ws w (with_told r t) t (set ws (8 * n) t) told (length-set ws (8 * n) t)
      (λ i from below. let ne : i ≢ 8 * n = λ e. omega arith in get_or-set_other ws (8 * n) i t 0 ne);
  told_is = get_or-set_same ws (8 * n) t 0 (omega (arith, h.wide));
}

-- ---- what the rule allows

pub allows_found : (n slots id i : ℕ) (me : Seated) → n ≡ me.0.size → me.0.writes ≡ true → IsNextWord i me.0 → Allows (RingRule n) slots id me i (λ x. x) (finds_word (step slots i 0 0 none) me)
allows_found n slots id i me key writes (at, small, room) =
    subst (λ (k : ℕ). Allows (RingRule k) slots id me i (λ x. x) (finds_word (step slots i 0 0 none) me)) (sym key)
    (subst (λ (k : ℕ). Allows (RingRule me.0.size) slots id me k (λ x. x) (finds_word (step slots k 0 0 none) me)) (sym at)
    (let m : ℕ = me.0.size in let place : ℕ = slot 0 m (length me.0.put.sent) + length me.0.put.part in
    allows_load (Fits m) (Held m) slots id place me (finds_word (step slots place 0 0 none) me)
    (λ ws s fits held.
    let x : ℕ = get_or ws place 0 in
    let h : RingHolds m ws me.0.put s.take = as_writer m id ws s me.0 writes fits held in
    writer_moves m id ws s me.0 (with_found me.0.put x) (λ v. finds_word (step slots place 0 0 none) me x (v, me.1)) writes fits
    (holds_found m x ws me.0.put s.take h small refl) (refl, (refl, small, room)))))

pub allows_stored : (n slots id i k x : ℕ) (me : Seated) → n ≡ me.0.size → me.0.writes ≡ true → IsPayloadWord i k me.0
    → Allows (RingRule n) slots id me i (λ _. x) (λ _. stores_word (step slots i x 0 none) me x)
allows_stored n slots id i k x me key writes (at, few, small, room) =
    subst (λ (y : ℕ). Allows (RingRule y) slots id me i (λ _. x) (λ _. stores_word (step slots i x 0 none) me x)) (sym key)
    (subst (λ (y : ℕ). Allows (RingRule me.0.size) slots id me y (λ _. x) (λ _. stores_word (step slots y x 0 none) me x)) (sym at)
    (let m : ℕ = me.0.size in let place : ℕ = slot 0 m (length me.0.put.sent) + k in
    allows_by (Fits m) (Held m) slots id place me (λ _. x) (λ _. stores_word (step slots place x 0 none) me x)
    (λ ws s fits held.
    let h : RingHolds m ws me.0.put s.take = as_writer m id ws s me.0 writes fits held in
    writer_moves m id (set ws place x) s me.0 (with_stored me.0.put k x) (λ v. stores_word (step slots place x 0 none) me x (v, me.1)) writes fits
    (holds_stored m k x ws me.0.put s.take h room few small) (k, refl, (refl, few, small, room)))))

pub allows_put : (n slots id i c : ℕ) (me : Seated) → n ≡ me.0.size → me.0.writes ≡ true → i ≡ slot 0 me.0.size (length me.0.put.sent) + 7
    → length me.0.put.part ≡ 7 → length me.0.put.sent < me.0.put.known + me.0.size → length me.0.put.sent < 2 ^ 62 → epoch_of c ≡ epoch_at me.0.size (length me.0.put.sent)
    → Allows (RingRule n) slots id me i (λ _. c) (λ _. stores_control (step slots i c 0 none) me c)
allows_put n slots id i c me key writes at seven room unspent turn =
    subst (λ (k : ℕ). Allows (RingRule k) slots id me i (λ _. c) (λ _. stores_control (step slots i c 0 none) me c)) (sym key)
    (subst (λ (k : ℕ). Allows (RingRule me.0.size) slots id me k (λ _. c) (λ _. stores_control (step slots k c 0 none) me c)) (sym at)
    (let m : ℕ = me.0.size in let place : ℕ = slot 0 m (length me.0.put.sent) + 7 in
    allows_by (Fits m) (Held m) slots id place me (λ _. c) (λ _. stores_control (step slots place c 0 none) me c)
    (λ ws s fits held. writer_moves m id (set ws place c) s me.0 (with_put me.0.put c) (λ v. stores_control (step slots place c 0 none) me c (v, me.1)) writes fits
    (holds_put m c ws me.0.put s.take (as_writer m id ws s me.0 writes fits held) room seven unspent turn) (refl, refl, seven, room, unspent, turn))))

known_holds : (n k : ℕ) (ws : List ℕ) (w : WriterView) (r : ReaderView) → RingHolds n ws w r → k ≡ r.told → RingHolds n ws (with_known w k) r
known_holds n k ws w r h is = record {
  wide = h.wide;
  way = runs_known 0 n ws w r r.told k h.way (omega (arith, h.way.known_told)) (omega arith);
  told_is = h.told_is;
}

pub allows_known : (n slots id i : ℕ) (me : Seated) → n ≡ me.0.size → me.0.writes ≡ true → i ≡ 8 * me.0.size
    → Allows (RingRule n) slots id me i (λ x. x) (loads_told (step slots i 0 0 none) me)
allows_known n slots id i me key writes at =
    subst (λ (k : ℕ). Allows (RingRule k) slots id me i (λ x. x) (loads_told (step slots i 0 0 none) me)) (sym key)
    (subst (λ (k : ℕ). Allows (RingRule me.0.size) slots id me k (λ x. x) (loads_told (step slots k 0 0 none) me)) (sym at)
    (let m : ℕ = me.0.size in
    allows_load (Fits m) (Held m) slots id (8 * m) me (loads_told (step slots (8 * m) 0 0 none) me)
    (λ ws s fits held.
    let x : ℕ = get_or ws (8 * m) 0 in
    let h : RingHolds m ws me.0.put s.take = as_writer m id ws s me.0 writes fits held in
    writer_moves m id ws s me.0 (with_known me.0.put x) (λ v. loads_told (step slots (8 * m) 0 0 none) me x (v, me.1)) writes fits
    (known_holds m x ws me.0.put s.take h h.told_is)
    (refl, omega (arith, h.told_is, h.way.known_told), omega (arith, h.told_is, h.way.told_got, front_within s.take.got me.0.put.sent h.way.got_sent), refl))))

-- the reader's loads leave the words, and only the way moves
way_holds : (n : ℕ) (ws : List ℕ) (w : WriterView) (r r' : ReaderView) → RingHolds n ws w r → r'.told ≡ r.told → WayRuns 0 n ws w r' r.told → RingHolds n ws w r'
way_holds n ws w r r' h same way = record {
  wide = h.wide;
  way = subst (λ (t : ℕ). WayRuns 0 n ws w r' t) (sym same) way;
  told_is = h.told_is ∙ sym same;
}

pub allows_control : (n slots id i : ℕ) (me : Seated) → n ≡ me.0.size → me.0.reads ≡ true → i ≡ slot 0 me.0.size (length me.0.take.got) + 7
    → Allows (RingRule n) slots id me i (λ x. x) (loads_control (step slots i 0 0 none) me)
allows_control n slots id i me key reads at =
    subst (λ (k : ℕ). Allows (RingRule k) slots id me i (λ x. x) (loads_control (step slots i 0 0 none) me)) (sym key)
    (subst (λ (k : ℕ). Allows (RingRule me.0.size) slots id me k (λ x. x) (loads_control (step slots k 0 0 none) me)) (sym at)
    (let m : ℕ = me.0.size in let place : ℕ = slot 0 m (length me.0.take.got) + 7 in
    allows_load (Fits m) (Held m) slots id place me (loads_control (step slots place 0 0 none) me)
    (λ ws s fits held.
    let x : ℕ = get_or ws place 0 in
    let r : ReaderView = me.0.take in
    let h : RingHolds m ws s.put r = as_reader m id ws s me.0 reads fits held in
    reader_moves m id ws s me.0 (with_control m r x) (λ v. loads_control (step slots place 0 0 none) me x (v, me.1)) reads fits
    (way_holds m ws s.put r (with_control m r x) h refl (runs_control 0 m ws s.put r r.told x h.way refl))
    (refl, (λ f e. (peeked_there 0 m ws s.put r r.told x h.way refl f e).0), (λ f e. (peeked_there 0 m ws s.put r r.told x h.way refl f e).1), refl))))

pub allows_loaded : (n slots id i : ℕ) (me : Seated) → n ≡ me.0.size → me.0.reads ≡ true → i ≡ slot 0 me.0.size (length me.0.take.got) + length me.0.take.part
    → IsDue me.0.size me.0.take → length me.0.take.part < 6
    → Allows (RingRule n) slots id me i (λ x. x) (loads_word (step slots i 0 0 none) me)
allows_loaded n slots id i me key reads at due small =
    subst (λ (k : ℕ). Allows (RingRule k) slots id me i (λ x. x) (loads_word (step slots i 0 0 none) me)) (sym key)
    (subst (λ (k : ℕ). Allows (RingRule me.0.size) slots id me k (λ x. x) (loads_word (step slots k 0 0 none) me)) (sym at)
    (let m : ℕ = me.0.size in let place : ℕ = slot 0 m (length me.0.take.got) + length me.0.take.part in
    allows_load (Fits m) (Held m) slots id place me (loads_word (step slots place 0 0 none) me)
    (λ ws s fits held.
    let x : ℕ = get_or ws place 0 in
    let r : ReaderView = me.0.take in
    let h : RingHolds m ws s.put r = as_reader m id ws s me.0 reads fits held in
    reader_moves m id ws s me.0 (with_loaded r x) (λ v. loads_word (step slots place 0 0 none) me x (v, me.1)) reads fits
    (way_holds m ws s.put r (with_loaded r x) h refl (runs_loaded 0 m ws s.put r r.told x h.way due small refl)) (refl, refl, small, due))))

pub allows_peeked : (n slots id i : ℕ) (me : Seated) → n ≡ me.0.size → me.0.reads ≡ true → i ≡ slot 0 me.0.size (length me.0.take.got) + 6
    → IsDue me.0.size me.0.take → length me.0.take.part ≡ 6
    → Allows (RingRule n) slots id me i (λ x. x) (loads_peeked (step slots i 0 0 none) me)
allows_peeked n slots id i me key reads at due six =
    subst (λ (k : ℕ). Allows (RingRule k) slots id me i (λ x. x) (loads_peeked (step slots i 0 0 none) me)) (sym key)
    (subst (λ (k : ℕ). Allows (RingRule me.0.size) slots id me k (λ x. x) (loads_peeked (step slots k 0 0 none) me)) (sym at)
    (let m : ℕ = me.0.size in let place : ℕ = slot 0 m (length me.0.take.got) + 6 in
    allows_load (Fits m) (Held m) slots id place me (loads_peeked (step slots place 0 0 none) me)
    (λ ws s fits held.
    let x : ℕ = get_or ws place 0 in
    let r : ReaderView = me.0.take in
    let h : RingHolds m ws s.put r = as_reader m id ws s me.0 reads fits held in
    reader_moves m id ws s me.0 (with_peeked r x) (λ v. loads_peeked (step slots place 0 0 none) me x (v, me.1)) reads fits
    (way_holds m ws s.put r (with_peeked r x) h refl (runs_peeked 0 m ws s.put r r.told x h.way due six refl))
    (refl, (λ f e. loaded_again 0 m ws s.put r r.told x h.way due six refl f e), (refl, six, due)))))

pub allows_taken : (n slots id i : ℕ) (me : Seated) → n ≡ me.0.size → me.0.reads ≡ true → i ≡ slot 0 me.0.size (length me.0.take.got) + 6
    → IsDue me.0.size me.0.take → length me.0.take.part ≡ 6
    → Allows (RingRule n) slots id me i (λ x. x) (loads_taken (step slots i 0 0 none) me)
allows_taken n slots id i me key reads at due six =
    subst (λ (k : ℕ). Allows (RingRule k) slots id me i (λ x. x) (loads_taken (step slots i 0 0 none) me)) (sym key)
    (subst (λ (k : ℕ). Allows (RingRule me.0.size) slots id me k (λ x. x) (loads_taken (step slots k 0 0 none) me)) (sym at)
    (let m : ℕ = me.0.size in let place : ℕ = slot 0 m (length me.0.take.got) + 6 in
    allows_load (Fits m) (Held m) slots id place me (loads_taken (step slots place 0 0 none) me)
    (λ ws s fits held.
    let x : ℕ = get_or ws place 0 in
    let r : ReaderView = me.0.take in
    let h : RingHolds m ws s.put r = as_reader m id ws s me.0 reads fits held in
    reader_moves m id ws s me.0 (with_got r x) (λ v. loads_taken (step slots place 0 0 none) me x (v, me.1)) reads fits
    (way_holds m ws s.put r (with_got r x) h refl (runs_got 0 m ws s.put r r.told x h.way due six refl))
    (refl, (λ f e. loaded_again 0 m ws s.put r r.told x h.way due six refl f e), got_unspent 0 m ws s.put r r.told x h.way due six refl, (refl, six, due)))))

pub allows_told : (n slots id i t : ℕ) (me : Seated) → n ≡ me.0.size → me.0.reads ≡ true → i ≡ 8 * me.0.size → t ≡ length me.0.take.got
    → Allows (RingRule n) slots id me i (λ _. t) (λ _. stores_told (step slots i t 0 none) me t)
allows_told n slots id i t me key reads at all =
    subst (λ (k : ℕ). Allows (RingRule k) slots id me i (λ _. t) (λ _. stores_told (step slots i t 0 none) me t)) (sym key)
    (subst (λ (k : ℕ). Allows (RingRule me.0.size) slots id me k (λ _. t) (λ _. stores_told (step slots k t 0 none) me t)) (sym at)
    (let m : ℕ = me.0.size in
    allows_by (Fits m) (Held m) slots id (8 * m) me (λ _. t) (λ _. stores_told (step slots (8 * m) t 0 none) me t)
    (λ ws s fits held.
    let r : ReaderView = me.0.take in
    let h : RingHolds m ws s.put r = as_reader m id ws s me.0 reads fits held in
    reader_moves m id (set ws (8 * m) t) s me.0 (with_told r t) (λ v. stores_told (step slots (8 * m) t 0 none) me t (v, me.1)) reads fits
    (holds_told m t ws s.put r h (omega (arith, all, h.way.told_got)) (omega (arith, all))) (refl, refl, omega (arith, all, h.way.told_got), omega (arith, all)))))

-- a seat of both sides compares
pub allows_compare : (n slots id i : ℕ) (me : Seated) → me.0.writes ≡ true → me.0.reads ≡ true → Allows (RingRule n) slots id me i (λ x. x) (compares (step slots i 0 0 none) me)
allows_compare n slots id i me writes reads =
    allows_load (Fits n) (Held n) slots id i me (compares (step slots i 0 0 none) me)
    (λ ws s fits held.
    let there : WayNear n s.put s.take = record { got_sent = held.way.got_sent; known_told = held.way.known_told; told_got = held.way.told_got; sent_near = held.way.room } in
    let sized : WayNear me.0.size s.put s.take = subst (λ (k : ℕ). WayNear k s.put s.take) (sym (fits.0 writes).2) there in
    let put : WayNear me.0.size me.0.put s.take = subst (λ (w : WriterView). WayNear me.0.size w s.take) (sym (fits.0 writes).1) sized in
    let mine : WayNear me.0.size me.0.put me.0.take = subst (λ (r : ReaderView). WayNear me.0.size me.0.put r) (sym (fits.1 reads).1) put in
    record { account = s; view = me.0; mine = fits; others = λ j u ne f. f; holds = held; tells = (refl, mine) })
