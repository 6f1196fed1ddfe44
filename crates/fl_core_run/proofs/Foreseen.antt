-- What a look found stands first at its side afterwards.
use Rattle.std.proofs.Common.{◌≡◌, sym, ap, ◌∙◌, subst, ℕ, ◌<◌, ◌≢◌, List, length, slice_get, slice_set, Some, Result, Ok, Err}
use Rattle.std.proofs.lemmas.List.{length-set}
use Rattle.fl_base.specs.declared.fragment.Frag.{Frag}
use Rattle.fl_base.specs.declared.identity.LinkId.{LinkId}
use Rattle.fl_base.specs.Control.{bare, with_circuit}
use Rattle.fl_link.specs.Looks.{Look, placed, found, saw}
use Rattle.fl_link.specs.declared.fault.PutFault.{PutFault}
use Rattle.fl_hop.specs.declared.forward.ForwardOutcome.TheVariants.{Moved}
use Rattle.fl_core.proofs.BoardPlaces.{set_here, set_elsewhere}
use Rattle.fl_core.specs.declared.answer.LinkFront.{LinkFront}
use Rattle.fl_core.specs.declared.answer.LinkFront.TheVariants.{Nothing, Acknowledged, Message, Onward, Arrival}
use Rattle.fl_core.specs.declared.fault.LinkReceiveFault.{LinkReceiveFault}
use Rattle.fl_core_run.specs.Run.{SideRelations, TheRun}
use Rattle.fl_core_run.specs.LogEntries.{PutsAt, HopOfFrag, PassesOn, looked, Does}
use Rattle.fl_core_run.specs.Inside.{StandsFirst, Fronts, Foresees, OverSide, put_label}
use Rattle.fl_core_run.proofs.Sides.{on_side}

some_is : {X : Type 0} (x y : X) → Some x ≡ Some y → x ≡ y
some_is x y same = cc

stands_first : {S : Type 0} (w : SideRelations S) (n : ℕ) (frag : Frag) (s t : TheRun S) (before after : S) → slice_get s.rings n ≡ Some before
    → t ≡ record s { core = t.core; rings = slice_set s.rings n after } → w.front after ≡ saw (bare frag) → Fronts w n frag t
stands_first {S} w n frag s t before after at rest seen p there =
    let here : slice_get t.rings n ≡ Some after = ap (λ (x : TheRun S). slice_get x.rings n) rest ∙ set_here s.rings n before after at in
    let same : p ≡ after = some_is p after (sym there ∙ here) in
    ap w.front same ∙ seen

pub foresees : {S : Type 0} (w : SideRelations S) (n : ℕ) (l : LinkId) (ahead : Result LinkFront LinkReceiveFault) (s t : TheRun S) → Does w (looked n l ahead) s t → Foresees w n ahead t
foresees w n l (Ok Nothing) s t h = tt
foresees w n l (Ok Acknowledged) s t h = tt
foresees w n l (Ok (Message frag)) s t h = stands_first w n frag s t h.before h.after h.before_is h.rest h.event.0.finds.1
foresees w n l (Ok (Onward frag to c)) s t h =
    (stands_first w n frag s t h.before h.after h.before_is h.rest h.event.0.seen.finds.1, h.event.0.seen.finds.4)
foresees w n l (Ok (Arrival frag e)) s t h =
    (stands_first w n frag s t h.before h.after h.before_is h.rest h.event.0.finds.1, h.event.0.finds.4)
foresees w n l (Err fault) s t h = tt

-- what stands first at one side stands there while something is done over another
pub stands_elsewhere : {S : Type 0} (front : S → Look) (n m : ℕ) (frag : Frag) (ss ts : List S) (Event : S → S → Type 0) → n ≢ m → OverSide m ss Event ts
    → StandsFirst front n frag ss → StandsFirst front n frag ts
stands_elsewhere {S} front n m frag ss ts Event two h seen p there =
    seen p (sym (ap (λ (xs : List S). slice_get xs n) h.rest ∙ set_elsewhere ss m n h.after two) ∙ there)

-- there are as many sides as before
pub as_many : {S : Type 0} (n m : ℕ) (ss ts : List S) (Event : S → S → Type 0) → OverSide m ss Event ts → n < length ss → n < length ts
as_many {S} n m ss ts Event h below = subst (λ (k : ℕ). n < k) (sym (ap (λ (xs : List S). length xs) h.rest ∙ length-set ss m h.after)) below

-- a put of a fragment that was to pass on, by what it came to
pub put_on : {S : Type 0} (w : SideRelations S) (s : TheRun S) (n : ℕ) (sent frag : Frag) (c : ℕ) (ts : List S) (result one : Result (Unit {0}) PutFault)
    → sent ≡ with_circuit c frag → result ≡ one → OverSide n s.rings (λ p q. w.puts p (put_label sent result) q) ts
    → PutsAt w n (put_label (with_circuit c frag) one) s (record s { rings = ts })
put_on {S} w s n sent frag c ts result one same is h =
    on_side s n ts (λ p q. w.puts p (put_label (with_circuit c frag) one) q)
    (subst (λ (f : Frag). OverSide n s.rings (λ p q. w.puts p (put_label f one) q) ts) same
    (subst (λ (r : Result (Unit {0}) PutFault). OverSide n s.rings (λ p q. w.puts p (put_label sent r) q) ts) is h))

-- a fragment that stands first at one side, and was put at another, is taken
pub passed_on : {S : Type 0} (w : SideRelations S) (s : TheRun S) (x : HopOfFrag) (ts us : List S)
    → PutsAt w x.onto (placed (bare (with_circuit x.circuit.0 x.frag))) s (record s { rings = ts })
    → OverSide x.from ts (λ p q. w.takes p (found (bare x.frag)) q) us → PassesOn w x Moved s (record s { rings = us })
passed_on w s x ts us puts takes = (record s { rings = ts }, puts, on_side (record s { rings = ts }) x.from us (λ p q. w.takes p (found (bare x.frag)) q) takes)
