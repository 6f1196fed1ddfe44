-- A core's table after it opened a circuit, or heard a message: numbers stay given, and at a number that was given no other entry comes.
use Rattle.std.proofs.Common.{◌≡◌, refl, sym, ◌∙◌, ap, subst, ℕ, zero, suc, ◌≤◌, nat_lt, Bool, true, false, cond, inl, inr}
use Rattle.std.proofs.Common.{List, [], ◌∷◌, slice_set, slice_index_or, Option, Some, None, option_map, arith}
use Rattle.std.proofs.lemmas.Bool.{cases_eq}
use Rattle.fl_base.specs.declared.identity.LinkId.{LinkId}
use Rattle.fl_base.specs.declared.identity.Circuit.{Circuit}
use Rattle.fl_hop.specs.declared.links.LinkState.{LinkState}
use Rattle.fl_hop.specs.declared.entry.HopTarget.{HopTarget}
use Rattle.fl_hop.specs.declared.entry.HopTarget.TheVariants.{Link as to_link, End as to_end}
use Rattle.fl_hop.specs.declared.entry.Hop.{Hop}
use Rattle.fl_hop.specs.Joined.{Sound as IsTable}
use Rattle.fl_hop.specs.Later.{Later, entry_at, unanswered}
use Rattle.fl_hop.specs.Numbers.{Given, IsOpened, IsTaken}
use Rattle.fl_hop.specs.Table.{TheCircuits, slot, hop_at, put_at, with_hops, with_links, with_entry, leading}
use Rattle.fl_hop.proofs.Cells.{slot_once}
use Rattle.fl_hop.proofs.Counting.{Grown, opened_stays, taken_stays}
use Rattle.fl_hop.proofs.Entering.{IsSlot}
use Rattle.fl_hop.proofs.Laters.{put_other}
use Rattle.fl_hop.proofs.Numbering.{small}

-- a number that was given is one of a link's
pub given_small : (t : TheCircuits) (l n : ℕ) → IsTable t → Given t l n → n ≤ 2046
given_small t l n k (inl o) = (small t.core o.link.neighbour.0 o.link.opened n (k.counts l o.link o.there).0 o.among).1
given_small t l n k (inr o) = (small o.link.neighbour.0 t.core o.link.taken n (k.counts l o.link o.there).1 o.among).1

-- links that grew, and nothing else
pub later_grown : (t : TheCircuits) (more : List LinkState) → Grown t.links more → Later t (with_links t more)
later_grown t more g = record {
  core = refl;
  here = opened_stays t.core t.links more g;
  there = taken_stays t.core t.links more g;
  kept = λ l n given. inl refl;
}

-- a way's number is small, and was given by nobody
abbrev pub IsUngiven : TheCircuits → HopTarget → Type 0
IsUngiven t (to_link l c) = (c.0 ≤ 2046) × (Given t l.0 c.0 → ⊥)
IsUngiven t (to_end e) = Unit {0}

new_slot : (t : TheCircuits) (way : HopTarget) (l n : ℕ) → IsTable t → IsUngiven t way → Given t l n → IsSlot way (slot l n) → ⊥
new_slot t (to_link m d) l n k new given e =
    let (a, b) = slot_once l n m.0 d.0 e (given_small t l n k given) new.0 in
    new.1 (subst (λ (x : ℕ). Given t x d.0) a (subst (λ (x : ℕ). Given t l x) b given))
new_slot t (to_end f) l n k new given e = e

-- links that grew, and an entry at numbers that weren't given
pub later_entered : (t : TheCircuits) (more : List LinkState) (binding : ℕ) (answered : Bool) (a b : HopTarget) → IsTable t → Grown t.links more → IsUngiven t a → IsUngiven t b
    → Later t (with_entry (with_links t more) binding answered a b)
later_entered t more binding answered a b k g x y = record {
  core = refl;
  here = opened_stays t.core t.links more g;
  there = taken_stays t.core t.links more g;
  kept = λ l n given.
      let u : TheCircuits = with_links t more in
      inl (ap (option_map unanswered)
      (put_other (with_hops u (put_at a (leading binding answered b) u.hops)) b (leading binding answered a) l n (new_slot t b l n k y given)
      ∙ put_other u a (leading binding answered b) l n (new_slot t a l n k x given)));
}

-- ---- an entry that is answered

set_index : (hops : List (Option Hop)) (i j : ℕ) (o p : Option Hop) → slice_index_or hops j None ≡ p → option_map unanswered o ≡ option_map unanswered p → j ≡ i
    → option_map unanswered (slice_index_or (slice_set hops i o) j None) ≡ option_map unanswered p
set_index [] i j o p q e same = ap (option_map unanswered) q
set_index (h ∷ hops) zero zero o p q e same = e
set_index (h ∷ hops) zero (suc j) o p q e same = absurd (omega arith)
set_index (h ∷ hops) (suc i) zero o p q e same = absurd (omega arith)
set_index (h ∷ hops) (suc i) (suc j) o p q e same = set_index hops i j o p q e (omega arith)

-- an entry put in the place of one that is alike but for whether it was answered
put_alike : (t : TheCircuits) (l : LinkId) (c : Circuit) (o : Option Hop) → option_map unanswered o ≡ option_map unanswered (slice_index_or t.hops (slot l.0 c.0) None)
    → (m n : ℕ) → entry_at (with_hops t (put_at (to_link l c) o t.hops)) m n ≡ entry_at t m n
put_alike t l c o e m n = elim (cases_eq (slot m n) (slot l.0 c.0)) [
  | inl same ↦ by_test (nat_lt n 2047) (set_index t.hops (slot l.0 c.0) (slot m n) o (slice_index_or t.hops (slot m n) None) refl
      (e ∙ ap (λ (i : ℕ). option_map unanswered (slice_index_or t.hops i None)) (sym same)) same)
  | inr other ↦ ap (option_map unanswered) (put_other t (to_link l c) o m n other)
]
  where
    by_test : (b : Bool) → option_map unanswered (slice_index_or (slice_set t.hops (slot l.0 c.0) o) (slot m n) None) ≡ option_map unanswered (slice_index_or t.hops (slot m n) None)
        → option_map unanswered (cond b (slice_index_or (slice_set t.hops (slot l.0 c.0) o) (slot m n) None) None)
        ≡ option_map unanswered (cond b (slice_index_or t.hops (slot m n) None) None)
    by_test true h = h
    by_test false h = refl

later_alike : (t u : TheCircuits) → u.core ≡ t.core → u.links ≡ t.links → ((l n : ℕ) → entry_at u l n ≡ entry_at t l n) → Later t u
later_alike t u core links h = record {
  core = core;
  here = λ l n o. subst (λ (c : ℕ). IsOpened c u.links l n) (sym core) (subst (λ (ls : List LinkState). IsOpened t.core ls l n) (sym links) o);
  there = λ l n o. subst (λ (c : ℕ). IsTaken c u.links l n) (sym core) (subst (λ (ls : List LinkState). IsTaken t.core ls l n) (sym links) o);
  kept = λ l n given. inl (h l n);
}

test_true : (b : Bool) (o : Option Hop) (hop : Hop) → cond b o None ≡ Some hop → b ≡ true
test_true true o hop h = refl
test_true false o hop h = absurd (cc)

-- the same, by what the entry says
put_same : (t : TheCircuits) (l : LinkId) (c : Circuit) (o : Option Hop) → nat_lt c.0 2047 ≡ true → option_map unanswered o ≡ entry_at t l.0 c.0
    → (m n : ℕ) → entry_at (with_hops t (put_at (to_link l c) o t.hops)) m n ≡ entry_at t m n
put_same t l c o test e =
    put_alike t l c o (e ∙ ap (λ (b : Bool). option_map unanswered (cond b (slice_index_or t.hops (slot l.0 c.0) None) None)) test)

says_same : (t : TheCircuits) (l n binding : ℕ) (way : HopTarget) (answered : Bool) → hop_at t l n ≡ leading binding answered way
    → option_map unanswered (leading binding true way) ≡ entry_at t l n
says_same t l n binding way answered h = sym (ap (option_map unanswered) h)

-- the entry that is answered stands there
pub later_answered : (t : TheCircuits) (l : LinkId) (c : Circuit) (hop : Hop) (way : HopTarget) → IsTable t → hop.way ≡ way → hop_at t l.0 c.0 ≡ Some hop
    → Later t (with_entry t hop.binding true way (to_link l c))
later_answered t l c hop (to_end e) k is there =
    let here : hop_at t l.0 c.0 ≡ leading hop.binding hop.answered (to_end e) =
    there ∙ ap (λ (w : HopTarget). leading hop.binding hop.answered w) is in
    later_alike t (with_entry t hop.binding true (to_end e) (to_link l c)) refl refl
    (put_same t l c (leading hop.binding true (to_end e)) (test_true (nat_lt c.0 2047) _ hop there) (says_same t l.0 c.0 hop.binding (to_end e) hop.answered here))
later_answered t l c hop (to_link m d) k is there =
    let here : hop_at t l.0 c.0 ≡ leading hop.binding hop.answered (to_link m d) =
    there ∙ ap (λ (w : HopTarget). leading hop.binding hop.answered w) is in
    let back = k.both l m c d hop.binding (record { answered = hop.answered; there = here }) in
    let first : TheCircuits = with_hops t (put_at (to_link m d) (leading hop.binding true (to_link l c)) t.hops) in
    let one : (x n : ℕ) → entry_at first x n ≡ entry_at t x n =
    put_same t m d (leading hop.binding true (to_link l c)) (test_true (nat_lt d.0 2047) _ _ back.there)
    (says_same t m.0 d.0 hop.binding (to_link l c) back.answered back.there) in
    let two : (x n : ℕ) → entry_at (with_hops first (put_at (to_link l c) (leading hop.binding true (to_link m d)) first.hops)) x n ≡ entry_at first x n =
    put_same first l c (leading hop.binding true (to_link m d)) (test_true (nat_lt c.0 2047) _ hop there)
    (says_same t l.0 c.0 hop.binding (to_link m d) hop.answered here ∙ sym (one l.0 c.0)) in
    later_alike t (with_entry t hop.binding true (to_link m d) (to_link l c)) refl refl (λ x n. two x n ∙ one x n)
