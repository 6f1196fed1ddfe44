-- A new table, seats cut off its first one, and seats joined.
use Rattle.std.proofs.Common.{ℕ, zero, suc, ◌≡◌, ◌≢◌, ◌<◌, ◌≤◌, ◌+◌, ◌*◌, ◌⊎◌, inl, inr, List, [], ◌∷◌, length, replicate, get_or, set, ap, subst, ◌∙◌, sym, refl, arith, Option, Some, None}
use mathlib.Core.Option.{some, some-injective, some-ne-none}
use native.Mathlib.Decide.{ℕ_discrete}
use lib.ListN.{get_elem?, length-replicate}
use Rattle.atomic_table.specs.Table.{Splits, Joins, opening}
use Rattle.atomic_table.proofs.Lists.{at_set, at_snoc, set_here, set_else}
use Rattle.fl_base.specs.declared.fragment.Frag.{Frag}
use Rattle.fl_ring.specs.SharedRing.{new_writing, new_reading}
use Rattle.fl_ring.specs.declared.shared.duo_board.SideView.{SideView}
use Rattle.fl_ring.specs.Counts.{LastTells}
use Rattle.fl_ring.specs.SharedWay.{WayRuns, IsDue}
use Rattle.fl_ring.specs.SharedDuo.{BothRun, NumbersRide, ways}
use Rattle.fl_ring.proofs.Clear.{clear_zeros}
use Rattle.fl_ring.proofs.SharedMakes.{at_end, first_epoch, all_zero, new_marked}
use Rattle.fl_history_rings.specs.declared.board.SideEnd.{SideEnd}
use Rattle.fl_history_rings.specs.declared.board.CoreView.{CoreView}
use Rattle.fl_history_rings.specs.declared.board.SeatView.{SeatView}
use Rattle.fl_history_rings.specs.Rings.{mate, Way, way_with, all_empty}
use Rattle.fl_history_rings.specs.Rule.{words_of, first_word, ArePaired, Lies, KnowsSide, Knows, Account, Fits, RingsHold, at_rest, seat_of, one_core, fresh_cores, first_view, without_first, first_alone, both_of, nobody}
use Rattle.fl_history_rings.specs.Seats.{HaveSlots}
use Rattle.fl_history_rings.proofs.Logs.{within, all_alike}
use Rattle.fl_history_rings.proofs.Words.{way_within, ring_apart}
use Rattle.fl_history_rings.proofs.Changes.{nothing_reading}
use Rattle.fl_history_rings.proofs.Notes.{lone_fits}

-- ---- a new table

-- the cores that did nothing yet, by their place in the list
pub fresh_at : (ends : List SideEnd) (first count i : ℕ) (h : CoreView) → get_elem? (fresh_cores ends first count) i ≡ some h → h ≡ at_rest ends (first + i) []
fresh_at ends first zero i h e = absurd (some-ne-none h (sym e))
fresh_at ends first (suc count) zero h e =
    let here : first + 0 ≡ first = omega arith in
    sym (some-injective (at_rest ends first []) h e) ∙ ap (λ (x : ℕ). at_rest ends x []) (sym here)
fresh_at ends first (suc count) (suc i) h e =
    let next : suc first + i ≡ first + suc i = omega arith in
    fresh_at ends (suc first) count i h e ∙ ap (λ (x : ℕ). at_rest ends x []) next

abbrev zeros : ℕ → List ℕ
zeros zero = []
zeros (suc count) = 0 ∷ zeros count

all_seated : (ends : List SideEnd) (first count i : ℕ) (h : CoreView) → get_elem? (fresh_cores ends first count) i ≡ some h → get_elem? (zeros count) i ≡ some 0
all_seated ends first zero i h e = absurd (some-ne-none h (sym e))
all_seated ends first (suc count) zero h e = refl
all_seated ends first (suc count) (suc i) h e = all_seated ends (suc first) count i h e

abbrev new_side : SideView
new_side = record { put = new_writing; take = new_reading }

none_some : (g : Frag) → (let o : Option Frag = None in o) ≡ Some g → ⊥
none_some g e = cc

-- a way of zeros
new_runs : (b n : ℕ) (ws : List ℕ) → 0 < n → b + 8 * n ≤ length ws → ((i : ℕ) → get_or ws i 0 ≡ 0) → WayRuns b n ws new_writing new_reading 0
new_runs b n ws any wide blank = record {
  holds = record { marked = new_marked b n ws any wide blank; stand = λ i d le lt. absurd (omega arith) };
  told_got = omega arith;
  got_sent = ([], refl);
  known_told = omega arith;
  room = omega arith;
  most = omega arith;
  seven = omega arith;
  part = λ k lt. absurd (omega arith);
  due = λ d lt. let h : 0 ≡ 1 = d ∙ first_epoch n 0 any any in absurd (omega arith);
  peeked = λ f e. absurd (none_some f e);
  clear = clear_zeros b n 1 ws blank;
  untouched = λ _. clear_zeros b n 0 ws blank;
}

-- what was found last hasn't the epoch due
not_due : (n : ℕ) → 0 < n → IsDue n new_reading → ⊥
not_due n any d = let h : 0 ≡ 1 = d ∙ first_epoch n 0 any any in omega (arith, h)

none_ride : NumbersRide [] [] 0 0
none_ride = record { waiting = []; split = refl; counts = refl }

none_tell : (b n : ℕ) (ws : List ℕ) → LastTells b n 0 ws 0 0
none_tell b n ws = record { since = omega arith; none_put = λ e. refl; last_put = λ i from last. absurd (omega arith) }

new_ring : (b c n : ℕ) (ws : List ℕ) → 0 < n → n ≤ 1024 → (b + 8 * n ≤ c) ⊎ (c + 8 * n ≤ b) → b + 8 * n ≤ length ws → c + 8 * n ≤ length ws → ((i : ℕ) → get_or ws i 0 ≡ 0) → BothRun (ways b c n 0) ws new_side new_side
new_ring b c n ws any few apart near far blank = record {
  few = few;
  apart = apart;
  there = new_runs b n ws any near blank;
  back = new_runs c n ws any far blank;
  told_there = none_ride;
  told_back = none_ride;
  last_there = λ d lt. absurd (not_due n any d);
  last_back = λ d lt. absurd (not_due n any d);
  word_there = none_tell b n ws;
  word_back = none_tell c n ws;
}

module _ (ends : List SideEnd) (count : ℕ) where
  new_knows_side : (c s : ℕ) (x : SideView) → get_elem? (replicate (length ends) new_side) s ≡ some x → KnowsSide s (at_rest ends c []) x
  new_knows_side c s x e =
      subst (λ (z : SideView). KnowsSide s (at_rest ends c []) z) (all_alike (length ends) s new_side x e)
      (record { sent_is = refl; got_is = refl; known_is = refl; part_is = refl; peeked_is = refl; loaded = λ p v no. absurd (nothing_reading s p v no) })

  new_knows : (c : ℕ) (h : CoreView) → get_elem? (fresh_cores ends 0 count) c ≡ some h → Knows ends (replicate (length ends) new_side) [] c h
  new_knows c h e =
      let here : 0 + c ≡ c = omega arith in
      let is : h ≡ at_rest ends c [] = fresh_at ends 0 count c h e ∙ ap (λ (x : ℕ). at_rest ends x []) here in
      subst (λ (x : CoreView). Knows ends (replicate (length ends) new_side) [] c x) (sym is)
      (record { number_is = refl; sides_are = refl; did = refl; knows = λ s end x at its now. new_knows_side c s x now })

  new_lies : (ws : List ℕ) → ((i : ℕ) → get_or ws i 0 ≡ 0) → (b c n : ℕ) → 0 < n → n ≤ 1024 → (b + 8 * n ≤ c) ⊎ (c + 8 * n ≤ b) → b + 8 * n ≤ length ws → c + 8 * n ≤ length ws → Lies b c n ws new_side new_side (way_with [] 0 0) (way_with [] 0 0)
  new_lies ws blank b c n any few apart near far = record {
    runs = new_ring b c n ws any few apart near far blank;
    there = record { waits = refl; taken_is = refl; told_is = refl };
    back = record { waits = refl; taken_is = refl; told_is = refl };
  }

  abbrev new_account : Account
  new_account = record { seats = zeros count; cores = fresh_cores ends 0 count }

  new_fits : (j : ℕ) (u : SeatView) → get_elem? (first_view ends count ∷ []) j ≡ some u → Fits new_account j u
  new_fits (suc j) u at = absurd (some-ne-none u (sym at))
  new_fits zero u at = subst (λ (x : SeatView). Fits new_account zero x) (some-injective (first_view ends count) u at) (λ i h e. each i h e)
    where
      each : (i : ℕ) (h : CoreView) → get_elem? (fresh_cores ends 0 count) i ≡ some h → (get_elem? new_account.cores h.core ≡ some h) × (get_elem? new_account.seats h.core ≡ some zero)
      each i h e =
          let here : 0 + i ≡ i = omega arith in
          let number : h.core ≡ i = ap (λ (x : CoreView). x.core) (fresh_at ends 0 count i h e) ∙ here in
          subst (λ (x : ℕ). (get_elem? new_account.cores x ≡ some h) × (get_elem? new_account.seats x ≡ some zero)) (sym number) (e, all_seated ends 0 count i h e)

  pub rings_open : (ws : List ℕ) → HaveSlots ends → ArePaired ends → ws ≡ replicate (words_of ends + 1) 0 → RingsHold ends (opening ws [] (first_view ends count))
  rings_open ws slots paired is =
      let long : length ws ≡ words_of ends + 1 = ap length is ∙ length-replicate (words_of ends + 1) 0 in
      let blank : (i : ℕ) → get_or ws i 0 ≡ 0 = λ i. ap (λ (xs : List ℕ). get_or xs i 0) is ∙ all_zero (words_of ends + 1) i in
      let empty : Way = way_with [] 0 0 in
      record {
        account = new_account;
        seats = λ j u at. new_fits j u at;
        holds = record {
          log = [];
          queues = all_empty (length ends);
          sides = replicate (length ends) new_side;
          paired = paired;
          runs = refl;
          by_its_core = λ i e at. absurd (some-ne-none e (sym at));
          many = length-replicate (length ends) empty;
          many_sides = length-replicate (length ends) new_side;
          lie = λ s end x y p q at now across stands stands_back.
              let other = paired s end at in
              let far : first_word ends (mate s) + 8 * end.slots ≤ length ws = let inside = way_within ends (mate s) other.0 other.1 in omega (arith, inside, long, other.2) in
              let near : first_word ends s + 8 * end.slots ≤ length ws = let inside = way_within ends s end at in omega (arith, inside, long) in
              subst (λ (z : SideView). Lies (first_word ends s) (first_word ends (mate s)) end.slots ws z y p q) (all_alike (length ends) s new_side x now)
              (subst (λ (z : SideView). Lies (first_word ends s) (first_word ends (mate s)) end.slots ws new_side z p q) (all_alike (length ends) (mate s) new_side y across)
              (subst (λ (z : Way). Lies (first_word ends s) (first_word ends (mate s)) end.slots ws new_side new_side z q) (all_alike (length ends) s empty p stands)
              (subst (λ (z : Way). Lies (first_word ends s) (first_word ends (mate s)) end.slots ws new_side new_side empty z) (all_alike (length ends) (mate s) empty q stands_back)
              (new_lies ws blank (first_word ends s) (first_word ends (mate s)) end.slots (slots s end at).0 (slots s end at).1 (ring_apart ends s end other.0 at other.1 other.2) near far))));
          knows = λ c h e. new_knows c h e;
        };
      }

-- ---- a core's seat is cut off

module _ (ends : List SideEnd) where
  cut : (id : ℕ) (h : CoreView) (hs : List CoreView) → ((i : ℕ) (g : CoreView) → get_elem? hs i ≡ some g → g.core ≢ h.core) → Splits (RingsHold ends) id (seat_of (h ∷ hs)) (seat_of hs) (one_core h)
  cut id h hs others s rule at = record {
    account = after;
    seats = λ j u e. in_row j u (at_end (set s.views id (seat_of hs)) (one_core h) u j e);
    holds = rule.holds;
  }
    where
      long : ℕ
      long = length (set s.views id (seat_of hs))

      after : Account
      after = record { seats = set rule.account.seats h.core long; cores = rule.account.cores }

      mine : Fits rule.account id (seat_of (h ∷ hs))
      mine = rule.seats id (seat_of (h ∷ hs)) at

      first : (get_elem? rule.account.cores h.core ≡ some h) × (get_elem? rule.account.seats h.core ≡ some id)
      first = mine zero h refl

      rest : Fits after id (seat_of hs)
      rest = λ i g e. let f = mine (suc i) g e in (f.0, set_else rule.account.seats h.core g.core long (others i g e) ∙ f.1)

      stays : (j : ℕ) (u : SeatView) → j ≢ id → Fits rule.account j u → Fits after j u
      stays j u ne f = λ i g e.
          let sits = f i g e in
          let apart : g.core ≢ h.core = λ d. ne (some-injective j id (sym (subst (λ (x : ℕ). get_elem? rule.account.seats x ≡ some j) d sits.1) ∙ first.1)) in
          (sits.0, set_else rule.account.seats h.core g.core long apart ∙ sits.1)

      kept : (j : ℕ) (u : SeatView) → ((j ≡ id) × (seat_of hs ≡ u)) ⊎ ((j ≢ id) × (get_elem? s.views j ≡ some u)) → Fits after j u
      kept j u (inl (e, d)) = subst (λ (x : ℕ). Fits after x u) (sym e) (subst (λ (x : SeatView). Fits after id x) d rest)
      kept j u (inr (ne, was)) = stays j u ne (rule.seats j u was)

      in_row : (j : ℕ) (u : SeatView) → (get_elem? (set s.views id (seat_of hs)) j ≡ some u) ⊎ ((j ≡ long) × (one_core h ≡ u)) → Fits after j u
      in_row j u (inl was) = kept j u (at_set s.views id j (seat_of hs) u was)
      in_row j u (inr (e, d)) =
          subst (λ (x : ℕ). Fits after x u) (sym e)
          (subst (λ (x : SeatView). Fits after long x) d (lone_fits after long h first.0 (set_here rule.account.seats h.core long (within rule.account.seats h.core id first.1))))

  fresh_cut : (id first more : ℕ) → Splits (RingsHold ends) id (seat_of (fresh_cores ends first (suc more))) (seat_of (fresh_cores ends (suc first) more)) (one_core (at_rest ends first []))
  fresh_cut id first more =
      cut id (at_rest ends first []) (fresh_cores ends (suc first) more)
      (λ i g e same. let number : g.core ≡ suc first + i = ap (λ (x : CoreView). x.core) (fresh_at ends (suc first) more i g e) in omega (arith, number, same))

  pub rings_split : (id first more : ℕ) (v : SeatView) → v ≡ seat_of (fresh_cores ends first (suc more)) → Splits (RingsHold ends) id v (without_first v) (first_alone v)
  rings_split id first more v is = subst (λ (x : SeatView). Splits (RingsHold ends) id x (without_first x) (first_alone x)) (sym is) (fresh_cut id first more)

  -- ---- joined

  lone_joins : (id other_seat : ℕ) (v : SeatView) (g : CoreView) → Joins (RingsHold ends) id v other_seat (one_core g) (both_of v (one_core g)) nobody
  lone_joins id other_seat v g s rule at apart at_other = record {
    account = after;
    seats = λ j u e. in_row j u (at_set (set s.views id (both_of v (one_core g))) other_seat j nobody u e);
    holds = rule.holds;
  }
    where
      mine : Fits rule.account id v
      mine = rule.seats id v at

      its : (get_elem? rule.account.cores g.core ≡ some g) × (get_elem? rule.account.seats g.core ≡ some other_seat)
      its = rule.seats other_seat (one_core g) (sym (set_else s.views id other_seat (both_of v (one_core g)) apart) ∙ at_other) zero g refl

      after : Account
      after = record { seats = set rule.account.seats g.core id; cores = rule.account.cores }

      here : get_elem? (set rule.account.seats g.core id) g.core ≡ some id
      here = set_here rule.account.seats g.core id (within rule.account.seats g.core other_seat its.1)

      -- a core of the first seat
      sits : (c : ℕ) → get_elem? rule.account.seats c ≡ some id → Dec (c ≡ g.core) → get_elem? (set rule.account.seats g.core id) c ≡ some id
      sits c was (yes e) = subst (λ (x : ℕ). get_elem? (set rule.account.seats g.core id) x ≡ some id) (sym e) here
      sits c was (no ne) = set_else rule.account.seats g.core c id ne ∙ was

      of_both : (h : CoreView) (i : ℕ) → (get_elem? v.cores i ≡ some h) ⊎ (g ≡ h) → (get_elem? rule.account.cores h.core ≡ some h) × (get_elem? (set rule.account.seats g.core id) h.core ≡ some id)
      of_both h i (inl was) = let f = mine i h was in (f.0, sits h.core f.1 (ℕ_discrete h.core g.core))
      of_both h i (inr is) = subst (λ (x : CoreView). (get_elem? rule.account.cores x.core ≡ some x) × (get_elem? (set rule.account.seats g.core id) x.core ≡ some id)) is (its.0, here)

      whole : Fits after id (both_of v (one_core g))
      whole = λ i h e. of_both h i (at_snoc v.cores g h i e)

      stays : (j : ℕ) (u : SeatView) → j ≢ other_seat → Fits rule.account j u → Fits after j u
      stays j u ne f = λ i h e.
          let was = f i h e in
          let differs : h.core ≢ g.core = λ d. ne (some-injective j other_seat (sym (subst (λ (x : ℕ). get_elem? rule.account.seats x ≡ some j) d was.1) ∙ its.1)) in
          (was.0, set_else rule.account.seats g.core h.core id differs ∙ was.1)

      kept : (j : ℕ) (u : SeatView) → j ≢ other_seat → ((j ≡ id) × (both_of v (one_core g) ≡ u)) ⊎ ((j ≢ id) × (get_elem? s.views j ≡ some u)) → Fits after j u
      kept j u ne (inl (e, d)) = subst (λ (x : ℕ). Fits after x u) (sym e) (subst (λ (x : SeatView). Fits after id x) d whole)
      kept j u ne (inr (away, was)) = stays j u ne (rule.seats j u was)

      in_row : (j : ℕ) (u : SeatView) → ((j ≡ other_seat) × (nobody ≡ u)) ⊎ ((j ≢ other_seat) × (get_elem? (set s.views id (both_of v (one_core g))) j ≡ some u)) → Fits after j u
      in_row j u (inl (e, d)) = subst (λ (x : SeatView). Fits after j x) d (λ i h none_there. absurd (some-ne-none h (sym none_there)))
      in_row j u (inr (ne, was)) = kept j u ne (at_set s.views id j (both_of v (one_core g)) u was)

  pub rings_join : (id other_seat : ℕ) (v w : SeatView) (g : CoreView) → w ≡ one_core g → Joins (RingsHold ends) id v other_seat w (both_of v w) nobody
  rings_join id other_seat v w g is = subst (λ (x : SeatView). Joins (RingsHold ends) id v other_seat x (both_of v x) nobody) (sym is) (lone_joins id other_seat v g)
