-- A new ring of two directions over shared words, its first seat cut in two, and two seats joined.
use Rattle.std.proofs.Common.{ℕ, zero, suc, ◌≡◌, ◌≢◌, ◌<◌, ◌≤◌, ◌+◌, ◌-◌, ◌*◌, ◌/◌, ◌%◌, ◌^◌, ◌⊎◌, inl, inr, List, [], ◌∷◌, length, replicate, get_or, set, ap, subst, ◌∙◌, sym, refl, arith, length-set, get_or-set_same, get_or-set_other, Option, Some, None}
use Rattle.std.proofs.lemmas.List.{append-nil}
use Rattle.std.proofs.lemmas.Bool.{cases_lt}
use Rattle.std.proofs.Math.Nat.{add-mod_right, mod-eq_of_lt}
use Rattle.std.proofs.lemmas.Nat.{mod_below}
use mathlib.Core.Option.{some, some-injective, some-ne-none}
use lib.ListN.{get_elem?, length-replicate}
use Rattle.atomic_table.specs.Table.{State, Me, Splits, Joins, opening}
use Rattle.atomic_table.proofs.Lists.{at_set, set_else}
use Rattle.fl_base.specs.declared.fragment.Frag.{Frag}
use Rattle.fl_base.specs.Control.{epoch_of}
use Rattle.fl_link.specs.Cursor.{epoch_at}
use Rattle.fl_ring.specs.declared.shared.duo_board.SeatHolder.{SeatHolder}
use Rattle.fl_ring.specs.declared.shared.duo_board.SeatHolder.TheVariants.{One, Two, Both, Nobody}
use Rattle.fl_ring.specs.declared.shared.duo_board.DuoView.{DuoView}
use Rattle.fl_ring.specs.Way.{slot, epoch_in, IsClear, Marked}
use Rattle.fl_ring.specs.Counts.{LastTells}
use Rattle.fl_ring.specs.SharedWay.{WayRuns}
use Rattle.fl_ring.specs.SharedDuo.{NumbersRide, CountsNear, Pairing, DuoFits, DuoHolds, IsOneSide, blank, new_side, duo_opening, side_one_of, side_two_of, duo_both_of, duo_nobody}
use Rattle.fl_ring.specs.SharedSides.{DuoSeat, SidesNear, side_of_seat}
use Rattle.fl_ring.proofs.Places.{slots_apart, slot_within, epoch_bit}
use Rattle.fl_ring.proofs.SharedWays.{front_within}
use Rattle.fl_ring.proofs.SharedMakes.{at_end, first_epoch}

one_two : (let h : SeatHolder = One in h) ≡ Two → ⊥
one_two e = cc

one_both : (let h : SeatHolder = One in h) ≡ Both → ⊥
one_both e = cc

two_one : (let h : SeatHolder = Two in h) ≡ One → ⊥
two_one e = cc

two_both : (let h : SeatHolder = Two in h) ≡ Both → ⊥
two_both e = cc

both_one : (let h : SeatHolder = Both in h) ≡ One → ⊥
both_one e = cc

both_two : (let h : SeatHolder = Both in h) ≡ Two → ⊥
both_two e = cc

nobody_one : (let h : SeatHolder = Nobody in h) ≡ One → ⊥
nobody_one e = cc

nobody_two : (let h : SeatHolder = Nobody in h) ≡ Two → ⊥
nobody_two e = cc

nobody_both : (let h : SeatHolder = Nobody in h) ≡ Both → ⊥
nobody_both e = cc

-- ---- cut in two

pub duo_splits : (n start id : ℕ) (v : DuoView) → v.holder ≡ Both → Splits (DuoHolds n start) id v (side_one_of v) (side_two_of v)
duo_splits n start id v both s rule at = record {
  account = after;
  seats = λ j u e. in_row j u (at_end (set s.views id (side_one_of v)) (side_two_of v) u j e);
  holds = rule.holds;
}
  where
    mine : DuoFits n rule.account id v
    mine = rule.seats id v at

    long : ℕ
    long = length (set s.views id (side_one_of v))

    after : Pairing
    after = record { first = id; second = long; one = rule.account.one; two = rule.account.two }

    kept : (j : ℕ) (u : DuoView) → ((j ≡ id) × (side_one_of v ≡ u)) ⊎ ((j ≢ id) × (get_elem? s.views j ≡ some u)) → DuoFits n after j u
    kept j u (inl (e, d)) =
        let f = mine.2 both in
        subst (λ (x : ℕ). DuoFits n after x u) (sym e)
        (subst (λ (x : DuoView). DuoFits n after id x) d ((λ _. (refl, f.2, f.4)), (λ no. absurd (one_two no)), (λ no. absurd (one_both no))))
    kept j u (inr (ne, there)) =
        let f = mine.2 both in
        let theirs : DuoFits n rule.account j u = rule.seats j u there in
        ((λ e. absurd (ne ((theirs.0 e).0 ∙ sym f.0))), (λ e. absurd (ne ((theirs.1 e).0 ∙ sym f.1))), (λ e. absurd (ne ((theirs.2 e).0 ∙ sym f.0))))

    in_row : (j : ℕ) (u : DuoView) → (get_elem? (set s.views id (side_one_of v)) j ≡ some u) ⊎ ((j ≡ long) × (side_two_of v ≡ u)) → DuoFits n after j u
    in_row j u (inl there) = kept j u (at_set s.views id j (side_one_of v) u there)
    in_row j u (inr (e, d)) =
        let f = mine.2 both in
        subst (λ (x : ℕ). DuoFits n after x u) (sym e)
        (subst (λ (x : DuoView). DuoFits n after long x) d ((λ no. absurd (two_one no)), (λ _. (refl, f.3, f.4)), (λ no. absurd (two_both no))))

-- ---- joined

module _ (n start id other : ℕ) (v w : DuoView) (s : State (Unit {0}) DuoView) (rule : DuoHolds n start s) (mine : DuoFits n rule.account id v) (theirs : DuoFits n rule.account other w) where
  abbrev joined : Pairing
  joined = record { first = id; second = id; one = rule.account.one; two = rule.account.two }

  -- every other seat is nobody's
  away_from : (j : ℕ) (u : DuoView) → ((j ≡ rule.account.first) → ⊥) → ((j ≡ rule.account.second) → ⊥) → DuoFits n rule.account j u → DuoFits n joined j u
  away_from j u not_one not_two f = ((λ e. absurd (not_one (f.0 e).0)), (λ e. absurd (not_two (f.1 e).0)), (λ e. absurd (not_one (f.2 e).0)))

  in_holding : (b : DuoView) → DuoFits n joined id b → (rule.account.first ≡ id) ⊎ (rule.account.first ≡ other) → (rule.account.second ≡ id) ⊎ (rule.account.second ≡ other)
      → (j : ℕ) (u : DuoView) → ((j ≡ other) × (duo_nobody ≡ u)) ⊎ ((j ≢ other) × (((j ≡ id) × (b ≡ u)) ⊎ ((j ≢ id) × (get_elem? s.views j ≡ some u)))) → DuoFits n joined j u
  in_holding b whole one two j u (inl (e, d)) = subst (λ (x : DuoView). DuoFits n joined j x) d ((λ no. absurd (nobody_one no)), (λ no. absurd (nobody_two no)), (λ no. absurd (nobody_both no)))
  in_holding b whole one two j u (inr (far, inl (e, d))) = subst (λ (x : ℕ). DuoFits n joined x u) (sym e) (subst (λ (x : DuoView). DuoFits n joined id x) d whole)
  in_holding b whole one two j u (inr (far, inr (ne, here))) = away_from j u (λ e. neither rule.account.first one e) (λ e. neither rule.account.second two e) (rule.seats j u here)
    where
      neither : (k : ℕ) → (k ≡ id) ⊎ (k ≡ other) → j ≡ k → ⊥
      neither k (inl d) e = ne (e ∙ d)
      neither k (inr d) e = far (e ∙ d)

pub duo_joins : (n start id other : ℕ) (v w : DuoView) → IsOneSide v.holder → IsOneSide w.holder → Joins (DuoHolds n start) id v other w (duo_both_of v w) duo_nobody
duo_joins n start id other v w side across s rule at apart there = record {
  account = joined n start id other v w s rule mine theirs;
  seats = λ j u e. cases side across j u (found j u (at_set (set s.views id (duo_both_of v w)) other j duo_nobody u e));
  holds = rule.holds;
}
  where
    mine : DuoFits n rule.account id v
    mine = rule.seats id v at

    theirs : DuoFits n rule.account other w
    theirs = rule.seats other w (sym (set_else s.views id other (duo_both_of v w) apart) ∙ there)

    found : (j : ℕ) (u : DuoView) → ((j ≡ other) × (duo_nobody ≡ u)) ⊎ ((j ≢ other) × (get_elem? (set s.views id (duo_both_of v w)) j ≡ some u))
        → ((j ≡ other) × (duo_nobody ≡ u)) ⊎ ((j ≢ other) × (((j ≡ id) × (duo_both_of v w ≡ u)) ⊎ ((j ≢ id) × (get_elem? s.views j ≡ some u))))
    found j u (inl h) = inl h
    found j u (inr (ne, here)) = inr (ne, at_set s.views id j (duo_both_of v w) u here)

    cases : IsOneSide v.holder → IsOneSide w.holder → (j : ℕ) (u : DuoView) → ((j ≡ other) × (duo_nobody ≡ u)) ⊎ ((j ≢ other) × (((j ≡ id) × (duo_both_of v w ≡ u)) ⊎ ((j ≢ id) × (get_elem? s.views j ≡ some u)))) → DuoFits n (joined n start id other v w s rule mine theirs) j u
    cases (inl e) (inl d) j u h = absurd (apart ((theirs.0 d).0 ∙ sym (mine.0 e).0))
    cases (inr e) (inr d) j u h = absurd (apart ((theirs.1 d).0 ∙ sym (mine.1 e).0))
    cases (inl e) (inr d) j u h =
        let f = mine.0 e in
        let g = theirs.1 d in
        let whole : duo_both_of v w ≡ (let b : DuoView = record { size = v.size; holder = Both; mine = v.mine; theirs = w.mine } in b) = ap (λ (x : SeatHolder). duo_both_of (record { size = v.size; holder = x; mine = v.mine; theirs = v.theirs }) w) e in
        let P : DuoView → Type 0 = λ x. DuoFits n (joined n start id other v w s rule mine theirs) id x in
        in_holding n start id other v w s rule mine theirs (duo_both_of v w)
        (subst P (sym whole) ((λ no. absurd (both_one no)), (λ no. absurd (both_two no)), (λ _. (refl, refl, f.1, g.1, f.2)))) (inl (sym f.0)) (inr (sym g.0)) j u h
    cases (inr e) (inl d) j u h =
        let f = mine.1 e in
        let g = theirs.0 d in
        let whole : duo_both_of v w ≡ (let b : DuoView = record { size = v.size; holder = Both; mine = w.mine; theirs = v.mine } in b) = ap (λ (x : SeatHolder). duo_both_of (record { size = v.size; holder = x; mine = v.mine; theirs = v.theirs }) w) e in
        let P : DuoView → Type 0 = λ x. DuoFits n (joined n start id other v w s rule mine theirs) id x in
        in_holding n start id other v w s rule mine theirs (duo_both_of v w)
        (subst P (sym whole) ((λ no. absurd (both_one no)), (λ no. absurd (both_two no)), (λ _. (refl, refl, g.1, f.1, f.2)))) (inr (sym g.0)) (inl (sym f.0)) j u h

-- what the joined seat compares, by either side
pub near_sides : (n : ℕ) (v w : DuoView) → IsOneSide v.holder → CountsNear n (duo_both_of v w).mine (duo_both_of v w).theirs → CountsNear n (duo_both_of v w).theirs (duo_both_of v w).mine
    → CountsNear n v.mine w.mine × CountsNear n w.mine v.mine
near_sides n v w (inl e) there back =
    let whole : duo_both_of v w ≡ (let b : DuoView = record { size = v.size; holder = Both; mine = v.mine; theirs = w.mine } in b) = ap (λ (x : SeatHolder). duo_both_of (record { size = v.size; holder = x; mine = v.mine; theirs = v.theirs }) w) e in
    (subst (λ (x : DuoView). CountsNear n x.mine x.theirs) whole there, subst (λ (x : DuoView). CountsNear n x.theirs x.mine) whole back)
near_sides n v w (inr e) there back =
    let whole : duo_both_of v w ≡ (let b : DuoView = record { size = v.size; holder = Both; mine = w.mine; theirs = v.mine } in b) = ap (λ (x : SeatHolder). duo_both_of (record { size = v.size; holder = x; mine = v.mine; theirs = v.theirs }) w) e in
    (subst (λ (x : DuoView). CountsNear n x.theirs x.mine) whole back, subst (λ (x : DuoView). CountsNear n x.mine x.theirs) whole there)

pub both_size : (v w : DuoView) → IsOneSide v.holder → (duo_both_of v w).size ≡ v.size
both_size v w (inl e) = ap (λ (x : SeatHolder). (duo_both_of (record { size = v.size; holder = x; mine = v.mine; theirs = v.theirs }) w).size) e
both_size v w (inr e) = ap (λ (x : SeatHolder). (duo_both_of (record { size = v.size; holder = x; mine = v.mine; theirs = v.theirs }) w).size) e

pub both_holder : (v w : DuoView) → IsOneSide v.holder → (duo_both_of v w).holder ≡ Both
both_holder v w (inl e) = ap (λ (x : SeatHolder). (duo_both_of (record { size = v.size; holder = x; mine = v.mine; theirs = v.theirs }) w).holder) e
both_holder v w (inr e) = ap (λ (x : SeatHolder). (duo_both_of (record { size = v.size; holder = x; mine = v.mine; theirs = v.theirs }) w).holder) e

-- ---- a new ring

passed : (start : ℕ) → length (replicate start blank) ≡ start
passed start = length-replicate start blank

not_due : (n start : ℕ) → epoch_of (start / n) ≡ epoch_at n (length (replicate start blank)) → ⊥
not_due n start e =
    let h : epoch_of (start / n) ≡ epoch_at n start = e ∙ ap (epoch_at n) (passed start) in
    let q : ℕ = start / n in
    let k : q % 2 ≡ (q + 1) % 2 = h in
    omega arith

none_some : (g : Frag) → (let o : Option Frag = None in o) ≡ Some g → ⊥
none_some g e = cc

new_way : (b n start : ℕ) (ws : List ℕ) → 0 < n → b + 8 * n ≤ length ws → start ≤ 2 ^ 62 → ((i : ℕ) → start ≤ i → i < start + n → epoch_in b n ws i ≢ epoch_at n i)
    → IsClear b n ws start → WayRuns b n ws (new_side n start).put (new_side n start).take start
new_way b n start ws p wide few free clear = record {
  holds = record {
    marked = subst (λ (x : ℕ). Marked b n ws start x) (sym (passed start)) (record {
      some = p;
      wide = wide;
      order = omega arith;
      within = omega arith;
      full = λ i le lt. absurd (omega arith);
      free = free;
    });
    stand = λ i d le lt. absurd (omega (arith, passed start));
  };
  told_got = omega (arith, passed start);
  got_sent = ([], sym (append-nil (replicate start blank)));
  known_told = omega arith;
  room = omega (arith, passed start);
  most = omega (arith, passed start);
  seven = omega arith;
  part = λ k lt. absurd (omega arith);
  due = λ d lt. absurd (not_due n start d);
  peeked = λ f e. absurd (none_some f e);
  clear = λ i from below. clear i (omega (arith, passed start)) below;
  untouched = λ _ i from below. clear i (omega (arith, passed start)) below;
}

new_rides : (start : ℕ) → NumbersRide (replicate start blank) (replicate start blank) start start
new_rides start = record { waiting = []; split = sym (append-nil (replicate start blank)); counts = refl }

new_tells : (b n start : ℕ) (ws : List ℕ) → LastTells b n start ws (length (replicate start blank)) start
new_tells b n start ws = record { since = omega (arith, passed start); none_put = λ e. refl; last_put = λ i from last. absurd (omega (arith, passed start)) }

pub duo_opens : (n start : ℕ) (ws : List ℕ) → 0 < n → n ≤ 1024 → start ≤ 2 ^ 62 → length ws ≡ 16 * n
    → ((i : ℕ) → start ≤ i → i < start + n → (epoch_in 0 n ws i ≢ epoch_at n i) × (epoch_in (8 * n) n ws i ≢ epoch_at n i))
    → IsClear 0 n ws start × IsClear (8 * n) n ws start → DuoHolds n start (opening ws [] (duo_opening n start))
duo_opens n start ws p small few wide free clear = record {
  account = all;
  seats = λ j u at. only j u at;
  holds = record {
    few = small;
    apart = inl (omega arith);
    there = new_way 0 n start ws p (omega arith) few (λ i le lt. (free i le lt).0) clear.0;
    back = new_way (8 * n) n start ws p (omega arith) few (λ i le lt. (free i le lt).1) clear.1;
    told_there = new_rides start;
    told_back = new_rides start;
    last_there = λ d lt. absurd (not_due n start d);
    last_back = λ d lt. absurd (not_due n start d);
    word_there = new_tells 0 n start ws;
    word_back = new_tells (8 * n) n start ws;
  };
}
  where
    all : Pairing
    all = record { first = 0; second = 0; one = new_side n start; two = new_side n start }

    only : (j : ℕ) (u : DuoView) → get_elem? (duo_opening n start ∷ []) j ≡ some u → DuoFits n all j u
    only zero u at =
        subst (λ (x : DuoView). DuoFits n all zero x) (some-injective (duo_opening n start) u at)
        ((λ no. absurd (both_one no)), (λ no. absurd (both_two no)), (λ _. (refl, refl, refl, refl, refl)))
    only (suc j) u at = absurd (some-ne-none u (sym at))

-- ---- the first epochs

-- the words after the slot of index j got the other epoch, in the way at b
pub marks : (b n j e : ℕ) (ws : List ℕ) → 0 < n → b + 8 * n ≤ length ws → e < 2 → e ≢ epoch_at n j → epoch_in b n (set ws (slot b n j + 7) e) j ≢ epoch_at n j
marks b n j e ws p wide bit other same =
    let here : get_or (set ws (slot b n j + 7) e) (slot b n j + 7) 0 ≡ e = get_or-set_same ws (slot b n j + 7) e 0 (omega (arith, slot_within b n j p)) in
    let even : epoch_of e ≡ e = omega arith in
    other (sym even ∙ ap epoch_of (sym here) ∙ same)

-- and those before it keep theirs
pub marks_other : (b n i j e : ℕ) (ws : List ℕ) → i < j → j < i + n → epoch_in b n (set ws (slot b n j + 7) e) i ≡ epoch_in b n ws i
marks_other b n i j e ws lt near =
    let apart = slots_apart b n i j lt near in
    let ne : slot b n i + 7 ≢ slot b n j + 7 = λ d. differ (slot b n i) (slot b n j) apart d in
    ap epoch_of (get_or-set_other ws (slot b n j + 7) (slot b n i + 7) e 0 ne)
  where
    differ : (x y : ℕ) → (x + 8 ≤ y) ⊎ (y + 8 ≤ x) → x + 7 ≡ y + 7 → ⊥
    differ x y (inl h) d = omega arith
    differ x y (inr h) d = omega arith

-- a word of the one way is none of the other
pub marks_across : (b c n i j e : ℕ) (ws : List ℕ) → 0 < n → (b + 8 * n ≤ c) ⊎ (c + 8 * n ≤ b) → epoch_in b n (set ws (slot c n j + 7) e) i ≡ epoch_in b n ws i
marks_across b c n i j e ws p apart =
    let ne : slot b n i + 7 ≢ slot c n j + 7 = λ d. differ apart d in
    ap epoch_of (get_or-set_other ws (slot c n j + 7) (slot b n i + 7) e 0 ne)
  where
    differ : (b + 8 * n ≤ c) ⊎ (c + 8 * n ≤ b) → slot b n i + 7 ≡ slot c n j + 7 → ⊥
    differ (inl h) d = let x = slot_within b n i p in let y = slot_within c n j p in let k : ℕ = j % n in let l : ℕ = i % n in omega arith
    differ (inr h) d = let x = slot_within b n i p in let y = slot_within c n j p in let k : ℕ = j % n in let l : ℕ = i % n in omega arith

-- both ways of the slot of index j have the other epoch, and so have those before it
pub marked_more : (n start j place e : ℕ) (ws : List ℕ) → 0 < n → length ws ≡ 16 * n → place ≡ j % n → e ≡ 1 - epoch_at n j → start ≤ j → j < start + n
    → ((i : ℕ) → start ≤ i → i < j → (epoch_in 0 n ws i ≢ epoch_at n i) × (epoch_in (8 * n) n ws i ≢ epoch_at n i))
    → (i : ℕ) → start ≤ i → i < j + 1
    → (epoch_in 0 n (set (set ws (8 * place + 7) e) (8 * n + (8 * place + 7)) e) i ≢ epoch_at n i) × (epoch_in (8 * n) n (set (set ws (8 * place + 7) e) (8 * n + (8 * place + 7)) e) i ≢ epoch_at n i)
marked_more n start j place e ws p wide at is from near before i le lt =
    let one : slot 0 n j + 7 ≡ 8 * place + 7 = omega (arith, at) in
    let two : slot (8 * n) n j + 7 ≡ 8 * n + (8 * place + 7) = omega (arith, at) in
    subst (λ (k : ℕ). Marks (set (set ws (8 * place + 7) e) k e)) two (subst (λ (k : ℕ). Marks (set (set ws k e) (slot (8 * n) n j + 7) e)) one (split (cases_lt i j)))
  where
    Marks : List ℕ → Type 0
    Marks xs = (epoch_in 0 n xs i ≢ epoch_at n i) × (epoch_in (8 * n) n xs i ≢ epoch_at n i)

    first : List ℕ
    first = set ws (slot 0 n j + 7) e

    bit : e < 2
    bit = let b = epoch_bit n j in omega (arith, is)

    other : e ≢ epoch_at n j
    other same = let b = epoch_bit n j in omega (arith, is, same)

    long : length first ≡ 16 * n
    long = length-set ws (slot 0 n j + 7) e ∙ wide

    split : (i < j) ⊎ (j ≤ i) → Marks (set first (slot (8 * n) n j + 7) e)
    split (inl lower) =
        let a = marks_across 0 (8 * n) n i j e first p (inl (omega arith)) ∙ marks_other 0 n i j e ws lower (omega arith) in
        let b = marks_other (8 * n) n i j e first lower (omega arith) ∙ marks_across (8 * n) 0 n i j e ws p (inr (omega arith)) in
        ((λ same. (before i le lower).0 (sym a ∙ same)), (λ same. (before i le lower).1 (sym b ∙ same)))
    split (inr there) =
        let here : j ≡ i = omega arith in
        let a = marks_across 0 (8 * n) n j j e first p (inl (omega arith)) in
        let now : (epoch_in 0 n (set first (slot (8 * n) n j + 7) e) j ≢ epoch_at n j) × (epoch_in (8 * n) n (set first (slot (8 * n) n j + 7) e) j ≢ epoch_at n j) =
        ((λ same. marks 0 n j e ws p (omega (arith, wide)) bit other (sym a ∙ same)), marks (8 * n) n j e first p (omega (arith, long)) bit other) in
        subst (λ (k : ℕ). (epoch_in 0 n (set first (slot (8 * n) n j + 7) e) k ≢ epoch_at n k) × (epoch_in (8 * n) n (set first (slot (8 * n) n j + 7) e) k ≢ epoch_at n k)) here now

sub_add : (x y : ℕ) → y ≤ x → x ≡ x - y + y
sub_add x y le = omega arith

-- a slot from the start on that is marked is marked in the first round, with zero: those of the next round lie below the start
first_round : (n start j place e : ℕ) → 0 < n → start ≤ j → j < start + n → place ≡ j % n → e ≡ 1 - epoch_at n j → start ≤ place → e ≡ 0
first_round n start j place e p from near at is low = within (cases_lt j n)
  where
    within : (j < n) ⊎ (n ≤ j) → e ≡ 0
    within (inl below) = omega (arith, is, first_epoch n j p below)
    within (inr above) =
        let over : j - n < n = omega (arith, at, mod_below j n p) in
        let place_is : j % n ≡ j - n = ap (λ (x : ℕ). x % n) (sub_add j n above) ∙ add-mod_right (j - n) n ∙ mod-eq_of_lt over in
        absurd (omega (arith, at, place_is))

-- a word that is zero stays so, where zero is stored there
zero_stays : (ws : List ℕ) (p e w : ℕ) → p < length ws → get_or ws w 0 ≡ 0 → (w ≡ p → e ≡ 0) → get_or (set ws p e) w 0 ≡ 0
zero_stays ws p e w inside was none = cases (cases_lt w p) (cases_lt p w)
  where
    cases : (w < p) ⊎ (p ≤ w) → (p < w) ⊎ (w ≤ p) → get_or (set ws p e) w 0 ≡ 0
    cases (inl below) _ = let ne : w ≢ p = λ d. omega arith in get_or-set_other ws p w e 0 ne ∙ was
    cases (inr above) (inl beyond) = let ne : w ≢ p = λ d. omega arith in get_or-set_other ws p w e 0 ne ∙ was
    cases (inr above) (inr under) =
        let same : w ≡ p = omega arith in
        ap (λ (k : ℕ). get_or (set ws p e) k 0) same ∙ get_or-set_same ws p e 0 inside ∙ none same

-- both slots of this index got this number: what is due in the first round stays zero
pub clear_more : (n start j place e : ℕ) (ws : List ℕ) → 0 < n → length ws ≡ 16 * n → place ≡ j % n → e ≡ 1 - epoch_at n j → start ≤ j → j < start + n
    → IsClear 0 n ws start × IsClear (8 * n) n ws start
    → IsClear 0 n (set (set ws (8 * place + 7) e) (8 * n + (8 * place + 7)) e) start × IsClear (8 * n) n (set (set ws (8 * place + 7) e) (8 * n + (8 * place + 7)) e) start
clear_more n start j place e ws p wide at is from near h = (
  (λ i le lt. both (0 + i) (h.0 i le lt) (λ d. due (omega arith)) (λ d. absurd (omega arith))),
  (λ i le lt. both (8 * n + i) (h.1 i le lt) (λ d. absurd (omega arith)) (λ d. due (omega arith))),
)
  where
    first : List ℕ
    first = set ws (8 * place + 7) e

    small : place < n
    small = omega (arith, at, mod_below j n p)

    long : length first ≡ 16 * n
    long = length-set ws (8 * place + 7) e ∙ wide

    due : start ≤ place → e ≡ 0
    due low = first_round n start j place e p from near at is low

    both : (w : ℕ) → get_or ws w 0 ≡ 0 → (w ≡ 8 * place + 7 → e ≡ 0) → (w ≡ 8 * n + (8 * place + 7) → e ≡ 0) → get_or (set first (8 * n + (8 * place + 7)) e) w 0 ≡ 0
    both w was one two =
        zero_stays first (8 * n + (8 * place + 7)) e w (omega (arith, long, small))
        (zero_stays ws (8 * place + 7) e w (omega (arith, wide, small)) was one) two

-- ---- both sides in one hand

near_of : (n : ℕ) (a b : DuoSeat) → n ≡ a.me.0.size → b.me.0.size ≡ a.me.0.size → CountsNear n a.me.0.mine b.me.0.mine → SidesNear (side_of_seat a) (side_of_seat b)
near_of n a b size same h = record {
  few = omega (arith, size, h.few);
  same_size = same;
  got_sent = h.got_sent;
  known_told = h.known_told;
  told_got = h.told_got;
  told_sent = omega (arith, h.told_got, front_within b.me.0.mine.take.got a.me.0.mine.put.sent h.got_sent);
  sent_near = omega (arith, size, h.sent_near);
}

pub settled : (a b : DuoSeat) (m : Me (Unit {0}) DuoView) → IsOneSide a.me.0.holder → a.me.0.size ≡ b.me.0.size → m ≡ (duo_both_of a.me.0 b.me.0, a.me.1)
    → CountsNear m.0.size m.0.mine m.0.theirs × CountsNear m.0.size m.0.theirs m.0.mine → SidesNear (side_of_seat a) (side_of_seat b) × SidesNear (side_of_seat b) (side_of_seat a)
settled a b m side same e near =
    let size : m.0.size ≡ a.me.0.size = ap (λ (z : Me (Unit {0}) DuoView). z.0.size) e ∙ both_size a.me.0 b.me.0 side in
    let there : CountsNear m.0.size (duo_both_of a.me.0 b.me.0).mine (duo_both_of a.me.0 b.me.0).theirs = subst (λ (z : Me (Unit {0}) DuoView). CountsNear m.0.size z.0.mine z.0.theirs) e near.0 in
    let back : CountsNear m.0.size (duo_both_of a.me.0 b.me.0).theirs (duo_both_of a.me.0 b.me.0).mine = subst (λ (z : Me (Unit {0}) DuoView). CountsNear m.0.size z.0.theirs z.0.mine) e near.1 in
    let both = near_sides m.0.size a.me.0 b.me.0 side there back in
    (near_of m.0.size a b size (sym same) both.0, near_of m.0.size b a (size ∙ same) same both.1)
