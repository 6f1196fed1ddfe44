-- A new ring over shared words, its first seat cut in two, and two seats joined.
use Rattle.std.proofs.Common.{ℕ, zero, suc, ◌≡◌, ◌≢◌, ◌<◌, ◌≤◌, ◌+◌, ◌*◌, ◌/◌, ◌%◌, ◌⊎◌, inl, inr, true, List, [], ◌∷◌, ◌++◌, length, replicate, get_or, set, ap, subst, ◌∙◌, sym, refl, arith, Option, Some, None}
use Rattle.std.proofs.lemmas.Bool.{false≢true}
use Rattle.std.proofs.lemmas.Nat.{div-mul-add}
use mathlib.Core.Option.{some, some-injective, some-ne-none}
use lib.ListN.{get_elem?, length-replicate}
use Rattle.atomic_table.specs.Table.{Me, Splits, Joins, opening}
use Rattle.atomic_table.proofs.Lists.{at_set, set_else}
use Rattle.fl_base.specs.declared.fragment.Frag.{Frag}
use Rattle.fl_base.specs.Control.{epoch_of}
use Rattle.fl_link.specs.Cursor.{epoch_at}
use Rattle.fl_ring.specs.declared.shared.board.RingView.{RingView}
use Rattle.fl_ring.specs.Way.{slot, Marked}
use Rattle.fl_ring.specs.SharedWay.{WayNear}
use Rattle.fl_ring.specs.SharedSeats.{RingSeat, RingNear, sender_of, receiver_of}
use Rattle.fl_ring.proofs.Clear.{clear_zeros}
use Rattle.fl_ring.specs.SharedRing.{Sides, Fits, RingHolds, RingRule, new_writing, new_reading, opening_view, writer_of, reader_of, both_of, nobody}

-- what stands in a list with one more at its end
pub at_end : {A : Type 0} (l : List A) (a b : A) (j : ℕ) → get_elem? (l ++ a ∷ []) j ≡ some b → (get_elem? l j ≡ some b) ⊎ ((j ≡ length l) × (a ≡ b))
at_end [] a b zero e = inr (refl, some-injective a b e)
at_end [] a b (suc j) e = absurd (some-ne-none b (sym e))
at_end (x ∷ xs) a b zero e = inl e
at_end (x ∷ xs) a b (suc j) e = next (at_end xs a b j e)
  where
    next : (get_elem? xs j ≡ some b) ⊎ ((j ≡ length xs) × (a ≡ b)) → (get_elem? xs j ≡ some b) ⊎ ((suc j ≡ suc (length xs)) × (a ≡ b))
    next (inl at) = inl at
    next (inr (d, same)) = inr (ap suc d, same)

-- ---- cut in two

pub splits : (n id : ℕ) (v : RingView) → v.writes ≡ true → v.reads ≡ true → Splits (RingRule n) id v (writer_of v) (reader_of v)
splits n id v writes reads s rule at = record {
  account = after;
  seats = λ j u e. in_row j u (at_end (set s.views id (writer_of v)) (reader_of v) u j e);
  holds = rule.holds;
}
  where
    mine : Fits n rule.account id v
    mine = rule.seats id v at

    after : Sides
    after = record { writer = id; reader = length (set s.views id (writer_of v)); put = rule.account.put; take = rule.account.take }

    kept : (j : ℕ) (u : RingView) → ((j ≡ id) × (writer_of v ≡ u)) ⊎ ((j ≢ id) × (get_elem? s.views j ≡ some u)) → Fits n after j u
    kept j u (inl (e, d)) =
        subst (λ (x : ℕ). Fits n after x u) (sym e) (subst (λ (x : RingView). Fits n after id x) d ((λ _. let f = mine.0 writes in (refl, f.1, f.2)), (λ no. absurd (false≢true no))))
    kept j u (inr (ne, there)) =
        let theirs : Fits n rule.account j u = rule.seats j u there in
        ((λ e. absurd (ne ((theirs.0 e).0 ∙ sym (mine.0 writes).0))), (λ e. absurd (ne ((theirs.1 e).0 ∙ sym (mine.1 reads).0))))

    in_row : (j : ℕ) (u : RingView) → (get_elem? (set s.views id (writer_of v)) j ≡ some u) ⊎ ((j ≡ length (set s.views id (writer_of v))) × (reader_of v ≡ u)) → Fits n after j u
    in_row j u (inl there) = kept j u (at_set s.views id j (writer_of v) u there)
    in_row j u (inr (e, d)) =
        subst (λ (x : ℕ). Fits n after x u) (sym e)
        (subst (λ (x : RingView). Fits n after (length (set s.views id (writer_of v))) x) d ((λ no. absurd (false≢true no)), (λ _. let f = mine.1 reads in (refl, f.1, f.2))))

-- ---- joined

pub joins : (n id other : ℕ) (v w : RingView) → v.writes ≡ true → w.reads ≡ true → Joins (RingRule n) id v other w (both_of v w) nobody
joins n id other v w writes reads s rule at apart there = record {
  account = after;
  seats = λ j u e. in_row j u (at_set (set s.views id (both_of v w)) other j nobody u e);
  holds = rule.holds;
}
  where
    mine : Fits n rule.account id v
    mine = rule.seats id v at

    theirs : Fits n rule.account other w
    theirs = rule.seats other w (sym (set_else s.views id other (both_of v w) apart) ∙ there)

    after : Sides
    after = record { writer = id; reader = id; put = rule.account.put; take = rule.account.take }

    kept : (j : ℕ) (u : RingView) → j ≢ other → ((j ≡ id) × (both_of v w ≡ u)) ⊎ ((j ≢ id) × (get_elem? s.views j ≡ some u)) → Fits n after j u
    kept j u away (inl (e, d)) =
        let f = mine.0 writes in
        let g = theirs.1 reads in
        subst (λ (x : ℕ). Fits n after x u) (sym e) (subst (λ (x : RingView). Fits n after id x) d ((λ _. (refl, f.1, f.2)), (λ _. (refl, g.1, f.2))))
    kept j u away (inr (ne, here)) =
        let old : Fits n rule.account j u = rule.seats j u here in
        ((λ e. absurd (ne ((old.0 e).0 ∙ sym (mine.0 writes).0))), (λ e. absurd (away ((old.1 e).0 ∙ sym (theirs.1 reads).0))))

    in_row : (j : ℕ) (u : RingView) → ((j ≡ other) × (nobody ≡ u)) ⊎ ((j ≢ other) × (get_elem? (set s.views id (both_of v w)) j ≡ some u)) → Fits n after j u
    in_row j u (inl (e, d)) = subst (λ (x : RingView). Fits n after j x) d ((λ no. absurd (false≢true no)), (λ no. absurd (false≢true no)))
    in_row j u (inr (ne, here)) = kept j u ne (at_set s.views id j (both_of v w) u here)

-- ---- a new ring

pub first_epoch : (n i : ℕ) → 0 < n → i < n → epoch_at n i ≡ 1
first_epoch n i p lt =
    let e : i ≡ zero * n + i = omega arith in
    let none : i / n ≡ zero = ap (λ (x : ℕ). x / n) e ∙ div-mul-add zero n i lt in
    ap (λ (x : ℕ). (x + 1) % 2) none

pub all_zero : (k i : ℕ) → get_or (replicate k zero) i zero ≡ zero
all_zero zero i = refl
all_zero (suc k) zero = refl
all_zero (suc k) (suc i) = all_zero k i

-- in the way at b
pub new_marked : (b n : ℕ) (ws : List ℕ) → 0 < n → b + 8 * n ≤ length ws → ((i : ℕ) → get_or ws i 0 ≡ 0) → Marked b n ws 0 0
new_marked b n ws p wide zeros = record {
  some = p;
  wide = omega arith;
  order = omega arith;
  within = omega arith;
  full = λ i le lt. absurd (omega arith);
  free = λ i le lt e.
      let h : 0 ≡ 1 = sym (ap epoch_of (zeros (slot b n i + 7))) ∙ e ∙ first_epoch n i p (omega arith) in
      omega arith;
}

pub new_holds : (n : ℕ) (ws : List ℕ) → 0 < n → length ws ≡ 8 * n + 8 → ((i : ℕ) → get_or ws i 0 ≡ 0) → RingHolds n ws new_writing new_reading
new_holds n ws p wide zeros = record {
  wide = wide;
  way = record {
    holds = record { marked = new_marked 0 n ws p (omega arith) zeros; stand = λ i d le lt. absurd (omega arith) };
    told_got = omega arith;
    got_sent = ([], refl);
    known_told = omega arith;
    room = omega arith;
    most = omega arith;
    seven = omega arith;
    part = λ k lt. absurd (omega arith);
    due = λ d lt. let h : 0 ≡ 1 = d ∙ first_epoch n 0 p p in absurd (omega arith);
    peeked = λ f e. absurd (none_some f e);
    clear = clear_zeros 0 n 1 ws zeros;
    untouched = λ _. clear_zeros 0 n 0 ws zeros;
  };
  told_is = zeros (8 * n);
}
  where
    none_some : (g : Frag) → (let o : Option Frag = None in o) ≡ Some g → ⊥
    none_some g e = cc

pub opens : (n : ℕ) (ws : List ℕ) → 0 < n → ws ≡ replicate (8 * n + 8) 0 → RingRule n (opening ws [] (opening_view n))
opens n ws p e = record {
  account = record { writer = 0; reader = 0; put = new_writing; take = new_reading };
  seats = λ j u at. only j u at;
  holds = new_holds n ws p (ap length e ∙ length-replicate (8 * n + 8) 0) (λ i. ap (λ (xs : List ℕ). get_or xs i 0) e ∙ all_zero (8 * n + 8) i);
}
  where
    only : (j : ℕ) (u : RingView) → get_elem? (opening_view n ∷ []) j ≡ some u → Fits n (record { writer = 0; reader = 0; put = new_writing; take = new_reading }) j u
    only zero u at =
        subst (λ (x : RingView). Fits n (record { writer = 0; reader = 0; put = new_writing; take = new_reading }) zero x) (some-injective (opening_view n) u at) ((λ _. (refl, refl, refl)), (λ _. (refl, refl, refl)))
    only (suc j) u at = absurd (some-ne-none u (sym at))

-- what the joined seat compares, as both sides see it
pub settled_ring : (a b : RingSeat) (m : Me (Unit {0}) RingView) → m ≡ (both_of a.me.0 b.me.0, a.me.1) → a.me.0.size ≤ 1024 → b.me.0.size ≡ a.me.0.size
    → WayNear m.0.size m.0.put m.0.take → RingNear (sender_of a) (receiver_of b)
settled_ring a b m e few same near =
    let h : WayNear a.me.0.size a.me.0.put b.me.0.take = subst (λ (z : Me (Unit {0}) RingView). WayNear z.0.size z.0.put z.0.take) e near in
    record { few = few; same_size = same; got_sent = h.got_sent; known_told = h.known_told; told_got = h.told_got; sent_near = h.sent_near }
