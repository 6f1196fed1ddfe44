-- A monitor writes: k is the core before, and base the same by its fields.
use Rattle.std.proofs.Common.{◌≡◌, refl, ap, subst, ℕ, List, [], ◌∷◌, slice_get, Some, None}
use Rattle.fl_base.specs.declared.fragment.Frag.{Frag}
use Rattle.fl_base.specs.Control.{bare}
use Rattle.fl_link.specs.Looks.{Look, placed}
use Rattle.fl_monitor.specs.Monitors.{TheMonitor, waiting_for, without_first}
use Rattle.fl_core.specs.declared.answer.MonitorWrite.TheVariants.{Written, Nothing}
use Rattle.fl_core.specs.View.{TheCore, with_monitor}
use Rattle.fl_core.specs.Links.{MonitorWrites}
use Rattle.fl_core.specs.Ends.{at_side}

none_first : {X : Type 0} (xs : List X) → slice_get xs 0 ≡ None → xs ≡ []
none_first [] h = refl
none_first (x ∷ xs) h = absurd (cc)

one_first : {X : Type 0} (xs : List X) (x : X) → slice_get xs 0 ≡ Some x → (rest : List X) × (xs ≡ x ∷ rest)
one_first [] x h = absurd (cc)
one_first (y ∷ xs) x h = let same : y ≡ x = cc in (xs, cc)

module _ {P : Type 0} (puts : P → Look → P → Type 0) (l : ℕ) (k base : TheCore) (same : base ≡ k) (p : P) where
  pub nothing_waits : slice_get (waiting_for base.monitor.outboxes l) 0 ≡ None → MonitorWrites puts l (at_side k p) Nothing (at_side k p)
  nothing_waits h = (none_first (waiting_for k.monitor.outboxes l) (subst (λ (x : TheCore). slice_get (waiting_for x.monitor.outboxes l) 0 ≡ None) same h), refl, refl)

  pub first_written : (f : Frag) (m : TheMonitor) (q : P) → slice_get (waiting_for base.monitor.outboxes l) 0 ≡ Some f → bare f ≡ f → puts p (placed (bare f)) q
      → m ≡ without_first l base.monitor → MonitorWrites puts l (at_side k p) Written (at_side (with_monitor base m) q)
  first_written f m q first own put rest =
      let it = one_first (waiting_for base.monitor.outboxes l) f first in
      subst (λ (x : TheCore). MonitorWrites puts l (at_side x p) Written (at_side (with_monitor base m) q)) same
      (f, it.0, it.1, subst (λ (g : Frag). puts p (placed g) q) own put, ap (with_monitor base) rest)
