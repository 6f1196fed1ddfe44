-- A fragment passed on between two sides of one list, and forwards.
use Rattle.std.proofs.Common.{◌≡◌, ◌≢◌, sym, ap, subst, ◌∙◌, inl, inr, ℕ, List, slice_get, slice_set, Result, Some, Ok, Err}
use Rattle.fl_base.specs.declared.fragment.Frag.{Frag}
use Rattle.fl_base.specs.declared.identity.LinkId.{LinkId}
use Rattle.fl_base.specs.declared.identity.Circuit.{Circuit}
use Rattle.fl_base.specs.Control.{with_circuit, bare}
use Rattle.fl_link.specs.Looks.{Look}
use Rattle.fl_hop.specs.declared.entry.HopTarget.TheVariants.{Link}
use Rattle.fl_hop.specs.declared.fault.HopFault.{HopFault}
use Rattle.fl_hop.specs.declared.fault.HopFault.TheVariants.{Marked, Misrouted, NoLink, UsedUp, Limit, Memory}
use Rattle.fl_hop.specs.declared.forward.HopFront.{HopFront}
use Rattle.fl_hop.specs.declared.forward.HopFront.TheVariants.{Goes}
use Rattle.fl_hop.specs.declared.forward.ForwardOutcome.{ForwardOutcome}
use Rattle.fl_hop.specs.Table.{TheCircuits}
use Rattle.fl_hop.specs.Forward.{BeforeAfter, LinkOfTable, Finds, put_label, Leaves, Crossing, Crosses, Looked, WentOn, Forwards}
use Rattle.fl_hop.proofs.Lists.{set_same, set_swap, set_set, set_here, set_cases}

abbrev pub crossing : ℕ → ℕ → Frag → ℕ → ForwardOutcome → Crossing
crossing l m frag c o = record { from = l; to = m; frag = frag; circuit = c; outcome = o }

abbrev pub change : {S : Type 0} → S → S → BeforeAfter S
change s t = record { before = s; after = t }

abbrev pub incoming : TheCircuits → ℕ → LinkOfTable
incoming t l = record { table = t; link = l }

pub crosses_stay : {S : Type 0} (takes puts : S → Look → S → Type 0) (ss : List S) (l m : ℕ) (frag : Frag) (c : ℕ) (o : ForwardOutcome) (s p q : S) → slice_get ss l ≡ Some s → slice_get ss m ≡ Some p → Leaves takes o (bare frag) (change s s) → puts p (put_label o (bare (with_circuit c frag))) q → Crosses takes puts (crossing l m frag c o) (change ss (slice_set ss m q))
crosses_stay {S} takes puts ss l m frag c o s p q there onward left put =
    let f : List S → List S = λ xs. slice_set xs m q in
    record {
      lent = record { from = record { before = s; after = s }; onto = record { before = p; after = q } };
      there = there;
      onward = onward;
      left = left;
      put = put;
      rest = ap f (sym (set_same ss l s there));
    }

pub crosses_on : {S : Type 0} (takes puts : S → Look → S → Type 0) (ss : List S) (l m : ℕ) (frag : Frag) (c : ℕ) (o : ForwardOutcome) (s p q t : S) → l ≢ m → slice_get ss l ≡ Some s → slice_get ss m ≡ Some p → Leaves takes o (bare frag) (change s t) → puts p (put_label o (bare (with_circuit c frag))) q → Crosses takes puts (crossing l m frag c o) (change ss (slice_set (slice_set ss m q) l t))
crosses_on takes puts ss l m frag c o s p q t two there onward left put = record {
  lent = record { from = record { before = s; after = t }; onto = record { before = p; after = q } };
  there = there;
  onward = onward;
  left = left;
  put = put;
  rest = set_swap ss m l q t (λ e. two (sym e));
}

-- a look at one side, and no more
pub looked_at : {S : Type 0} (takes : S → Look → S → Type 0) (front : S → Look) (t : TheCircuits) (l : ℕ) (ss : List S) (before seen : S) (found : Result HopFront HopFault) (p : ℕ)
    → p ≡ l → slice_get ss p ≡ Some before → Finds takes front (incoming t l) found (change before seen) → Looked takes front (incoming t l) found (change ss (slice_set ss p seen))
looked_at takes front t l ss before seen found p e there sees = record {
  before = before;
  after = seen;
  there = subst (λ i. slice_get ss i ≡ Some before) e there;
  sees = sees;
  rest = ap (λ i. slice_set ss i seen) e;
}

-- which is refused: a look finds no link wanting
pub refused_at : {S : Type 0} (takes puts : S → Look → S → Type 0) (front : S → Look) (at : LinkOfTable) (ss : BeforeAfter (List S)) (fault : HopFault) → Looked takes front at (Err fault) ss → Forwards takes puts front at (Err fault) ss
refused_at takes puts front at ss Marked x = x
refused_at takes puts front at ss Misrouted x = x
refused_at takes puts front at ss NoLink x = absurd x.sees
refused_at takes puts front at ss UsedUp x = x
refused_at takes puts front at ss Limit x = x
refused_at takes puts front at ss Memory x = x

-- the side that was looked at has the fragment first that the look saw
pub first_after : {S : Type 0} (front : S → Look) (ss : List S) (p : ℕ) (before seen s : S) (k : Look) → slice_get ss p ≡ Some before → front seen ≡ k → slice_get (slice_set ss p seen) p ≡ Some s → front s ≡ k
first_after front ss p before seen s k there first stands =
    let some : Some seen ≡ Some s = sym (set_here ss p before seen there) ∙ stands in
    let same : seen ≡ s = cc in
    subst (λ x. front x ≡ k) same first

-- a look at one side, and then a fragment passed on from it over another
went_at : {S : Type 0} (takes puts : S → Look → S → Type 0) (front : S → Look) (t : TheCircuits) (l : ℕ) (ss : List S) (before seen : S) (frag : Frag) (m : LinkId) (c : Circuit) (o : ForwardOutcome) (us : List S)
    → slice_get ss l ≡ Some before → l ≢ m.0 → Finds takes front (incoming t l) (Ok (Goes frag (Link m c))) (change before seen) → Crosses takes puts (crossing l m.0 frag c.0 o) (change (slice_set ss l seen) us) → WentOn takes puts front (incoming t l) o (change ss us)
went_at {S} takes puts front t l ss before seen frag m c o us there two sees x =
    let some : Some x.lent.from.before ≡ Some seen = sym x.there ∙ set_here ss l before seen there in
    let same : x.lent.from.before ≡ seen = cc in
    let onward : slice_get ss m.0 ≡ Some x.lent.onto.before =
    elim (set_cases ss l seen m.0 x.lent.onto.before x.onward) [
      | inl (e, is) ↦ absurd (two (sym e))
      | inr (n, at) ↦ at
    ] in
    let f : List S → List S = λ xs. slice_set xs m.0 x.lent.onto.after in
    record {
      frag = frag;
      link = m;
      circuit = c;
      lent = record { from = record { before = before; after = x.lent.from.after }; onto = x.lent.onto };
      there = there;
      onward = onward;
      passes = record {
        seen = seen;
        sees = sees;
        left = subst (λ b. Leaves takes o (bare frag) (change b x.lent.from.after)) same x.left;
        put = x.put;
      };
      rest = x.rest ∙ ap f (set_set ss l seen x.lent.from.after);
    }

pub went_on : {S : Type 0} (takes puts : S → Look → S → Type 0) (front : S → Look) (t : TheCircuits) (l : ℕ) (ss : List S) (before seen : S) (frag : Frag) (m : LinkId) (c : Circuit) (o : ForwardOutcome) (us : List S) (p q : ℕ)
    → p ≡ l → q ≡ m.0 → slice_get ss p ≡ Some before → l ≢ m.0 → Finds takes front (incoming t l) (Ok (Goes frag (Link m c))) (change before seen) → Crosses takes puts (crossing p q frag c.0 o) (change (slice_set ss p seen) us) → WentOn takes puts front (incoming t l) o (change ss us)
went_on takes puts front t l ss before seen frag m c o us p q e f there two sees x =
    went_at takes puts front t l ss before seen frag m c o us (subst (λ i. slice_get ss i ≡ Some before) e there) two sees
    (subst (λ j. Crosses takes puts (crossing l j frag c.0 o) (change (slice_set ss l seen) us)) f (subst (λ i. Crosses takes puts (crossing i q frag c.0 o) (change (slice_set ss i seen) us)) e x))
