-- What a table keeps while it changes.
use Rattle.std.proofs.Common.{◌≡◌, refl, sym, ap, subst, ◌∙◌, ℕ, zero, suc, nat_lt, ◌+◌, ◌<◌, ◌≤◌, ◌⊎◌, inl, inr, Bool, true, false, cond, List, [], ◌∷◌, length, slice_set, slice_index_or, Option, Some, None, option_map, arith}
use Rattle.std.proofs.lemmas.List.{get_or-set_other}
use Rattle.std.proofs.lemmas.Bool.{cases_eq}
use Rattle.std.proofs.lemmas.Bool.Decides.{nat_tests}
use Rattle.slab.specs.Slab.{Slab}
use Rattle.fl_hop.specs.declared.entry.HopTarget.{HopTarget}
use Rattle.fl_hop.specs.declared.entry.HopTarget.TheVariants.{Link, End}
use Rattle.fl_hop.specs.declared.entry.Hop.{Hop}
use Rattle.fl_hop.specs.declared.entry.Cell.{Cell}
use Rattle.fl_hop.specs.declared.entry.Entry.{Entry}
use Rattle.fl_hop.specs.declared.links.LinkState.{LinkState}
use Rattle.fl_hop.specs.Table.{TheCircuits, slot, hop_at, stands, put_at, with_hops, with_entry, without_entry, leading}
use Rattle.fl_hop.specs.Numbers.{IsGiven, next_due, next_own}
use Rattle.fl_hop.specs.Openings.{is_next}
use Rattle.fl_hop.specs.Later.{Later, unanswered}
use Rattle.fl_hop.specs.Slots.{table_of, SlotsKept}
use Rattle.fl_hop.proofs.Lists.{within}
use Rattle.fl_hop.proofs.Cells.{slot_once}
use Rattle.fl_hop.proofs.Sounds.{in_range}
use Rattle.fl_hop.proofs.Entering.{IsSlot}
use Rattle.fl_hop.proofs.Counting.{Grown, Next, Due, next_is, due_is, next_new, due_new, opened_stays, taken_stays}
use Rattle.fl_hop.proofs.Numbering.{small}
use Rattle.fl_base.specs.declared.identity.LinkId.{LinkId}
use Rattle.fl_base.specs.declared.identity.Circuit.{Circuit}

pub next_test : (o : Option ℕ) (n : ℕ) → is_next o n ≡ true → o ≡ Some n
next_test None n e = cc
next_test (Some m) n e = let same : m ≡ n = grind (arith, nat_tests, e) in let f : ℕ → Option ℕ = λ x. Some x in ap f same

-- a way's number, if it has one, is a link's and was given by nobody
abbrev pub IsNew : ℕ → List LinkState → HopTarget → Type 0
IsNew core links (Link l c) = (c.0 ≤ 2046) × (IsGiven core links l.0 c.0 → ⊥) × (l.0 < length links)
IsNew core links (End e) = Unit {0}

-- the number that is due on a link
pub due_at : (core : ℕ) (links : List LinkState) (cells : List Cell) (s : Slab Entry) (t : TheCircuits) → table_of core links cells s ≡ t → (l n : ℕ) (b : Bool) → b ≡ is_next (next_due t l) n → b ≡ true → Due core links l n
due_at core links cells s t is l n b e h =
    due_is core links l n (subst (λ u. next_due u l ≡ Some n) (sym is) (next_test (next_due t l) n (sym e ∙ h)))

-- this core's next number on a link
pub next_at : (core : ℕ) (links : List LinkState) (cells : List Cell) (s : Slab Entry) (t : TheCircuits) → table_of core links cells s ≡ t → (l n : ℕ) → next_own t l ≡ Some n → Next core links l n
next_at core links cells s t is l n e = next_is core links l n (subst (λ u. next_own u l ≡ Some n) (sym is) e)

-- links that grew
pub later_links : (core : ℕ) (links more : List LinkState) (cells : List Cell) (s : Slab Entry) → Grown links more → Later (table_of core links cells s) (table_of core more cells s)
later_links core links more cells s g = record {
  core = refl;
  here = opened_stays core links more g;
  there = taken_stays core links more g;
  kept = λ l n given. inl refl;
}

-- a number other than a way's own keeps what it says
pub put_other : (t : TheCircuits) (way : HopTarget) (o : Option Hop) (l n : ℕ) → (IsSlot way (slot l n) → ⊥) → hop_at (with_hops t (put_at way o t.hops)) l n ≡ hop_at t l n
put_other t (Link m d) o l n away =
    let f : Option Hop → Option Hop = λ x. cond (nat_lt n 2047) x None in
    ap f (get_or-set_other t.hops (slot m.0 d.0) (slot l n) o None away)
put_other t (End e) o l n away = refl

none_here : (hops : List (Option Hop)) (i j : ℕ) → j ≡ i → slice_index_or (slice_set hops i None) j None ≡ None
none_here [] i j e = refl
none_here (h ∷ hops) zero zero e = refl
none_here (h ∷ hops) zero (suc j) e = absurd (omega arith)
none_here (h ∷ hops) (suc i) zero e = absurd (omega arith)
none_here (h ∷ hops) (suc i) (suc j) e = none_here hops i j (omega arith)

cond_none : {X : Type 0} (b : Bool) (o : Option X) → o ≡ None → cond b o None ≡ None
cond_none true o e = e
cond_none false o e = refl

-- a number that is emptied, or another
pub put_none : (t : TheCircuits) (way : HopTarget) (l n : ℕ) → (hop_at (with_hops t (put_at way None t.hops)) l n ≡ hop_at t l n) ⊎ (hop_at (with_hops t (put_at way None t.hops)) l n ≡ None)
put_none t (Link m d) l n =
    elim (cases_eq (slot l n) (slot m.0 d.0)) [
      | inl same ↦ inr (cond_none (nat_lt n 2047) (slice_index_or (slice_set t.hops (slot m.0 d.0) None) (slot l n) None) (none_here t.hops (slot m.0 d.0) (slot l n) same))
      | inr other ↦ inl (put_other t (Link m d) None l n other)
    ]
put_none t (End e) l n = inl refl

-- a table without an entry
pub later_without : (t : TheCircuits) (a b : HopTarget) → Later t (without_entry t a b)
later_without t a b = record {
  core = refl;
  here = λ l n o. o;
  there = λ l n o. o;
  kept = λ l n given.
      let entry : Option Hop → Option Hop = λ o. option_map unanswered o in
      elim (put_none (with_hops t (put_at a None t.hops)) b l n) [
        | inl same ↦
            elim (put_none t a l n) [
              | inl too ↦ inl (ap entry (same ∙ too))
              | inr gone ↦ inr (same ∙ gone)
            ]
        | inr gone ↦ inr gone
      ];
}

-- a number of a link that wasn't given is no number that was
new_slot : (core : ℕ) (links : List LinkState) (cells : List Cell) (s : Slab Entry) → SlotsKept core links cells s → (way : HopTarget) → IsNew core links way → (l n : ℕ) → IsGiven core links l n → IsSlot way (slot l n) → ⊥
new_slot core links cells s k (Link m d) new l n given e =
    let r = in_range core links cells s k l n given in
    let (a, b) = slot_once l n m.0 d.0 e r.2 new.0 in
    new.1 (subst (λ x. IsGiven core links x d.0) a (subst (λ x. IsGiven core links l x) b given))
new_slot core links cells s k (End f) new l n given e = e

-- links that grew, and an entry at numbers that weren't given
pub later_with : (core : ℕ) (links more : List LinkState) (cells : List Cell) (s : Slab Entry) → SlotsKept core links cells s → Grown links more → (binding : ℕ) (answered : Bool) (a b : HopTarget) → IsNew core links a → IsNew core links b → Later (table_of core links cells s) (with_entry (table_of core more cells s) binding answered a b)
later_with core links more cells s k g binding answered a b x y = record {
  core = refl;
  here = opened_stays core links more g;
  there = taken_stays core links more g;
  kept = λ l n given.
      let entry : Option Hop → Option Hop = λ o. option_map unanswered o in
      let t = table_of core more cells s in
      inl (ap entry (put_other (with_hops t (put_at a (leading binding answered b) t.hops)) b (leading binding answered a) l n (new_slot core links cells s k b y l n given)
      ∙ put_other t a (leading binding answered b) l n (new_slot core links cells s k a x l n given)));
}

-- the number that is due, and this core's next, are new
pub due_fresh : (core : ℕ) (links : List LinkState) (cells : List Cell) (s : Slab Entry) → SlotsKept core links cells s → (l : LinkId) (c : Circuit) → Due core links l.0 c.0 → IsNew core links (Link l c)
due_fresh core links cells s k l c d =
    let few = d.few in
    let p = small d.link.neighbour.0 core (d.link.taken + 1) c.0 (omega arith) (d.link.taken, omega arith, sym d.is) in
    (p.1, due_new core links cells s k l.0 c.0 d, within links l.0 d.link d.there)

pub next_fresh : (core : ℕ) (links : List LinkState) (cells : List Cell) (s : Slab Entry) → SlotsKept core links cells s → (l : LinkId) (c : Circuit) → Next core links l.0 c.0 → IsNew core links (Link l c)
next_fresh core links cells s k l c d =
    let few = d.few in
    let p = small core d.link.neighbour.0 (d.link.opened + 1) c.0 (omega arith) (d.link.opened, omega arith, sym d.is) in
    (p.1, next_new core links cells s k l.0 c.0 d, within links l.0 d.link d.there)

pub none_stands : (t u : TheCircuits) → t ≡ u → (binding : ℕ) (b : Bool) → b ≡ stands u binding → b ≡ false → stands t binding ≡ false
none_stands t u is binding b e h = ap (λ v. stands v binding) is ∙ sym e ∙ h
