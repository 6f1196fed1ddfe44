-- One end among all: what a change of some end makes of it.
use Rattle.std.proofs.Common.{◌≡◌, refl, sym, ◌∙◌, ap, subst, ℕ, zero, suc, ◌==◌, ◌&&◌, Bool, true, false, List, [], ◌∷◌, ◌++◌, slice_get, slice_set, Option, Some, None, is_some}
use Rattle.std.proofs.lemmas.Bool.{eqb-true, eqb-false}
use Rattle.fl_base.specs.declared.identity.Side.{Side}
use Rattle.fl_base.specs.declared.identity.Side.TheVariants.{Client, Server}
use Rattle.fl_base.specs.declared.identity.EndId.{EndId}
use Rattle.fl_base.specs.Given.{given}
use Rattle.fl_model.specs.Given.{changed_at}
use Rattle.fl_model.specs.Ends.{End}
use Rattle.fl_model.specs.State.{Binding, State, end_in, end_of, with_end_in, change_end}
use Rattle.fl_model.specs.Runs.{same_side, same_end}
use Rattle.fl_model_laws.proofs.Cases.{by_given}
use Rattle.fl_model_laws.proofs.Small.{both_are, changed_here}
use Rattle.fl_model_laws.proofs.Places.{changed_other}

-- ---- lists

-- what is told of each place alike is told alike after a change that it doesn't tell
set_alike : {X Y : Type 0} (G : Option X → Y) (xs : List X) (n k : ℕ) (x y : X) → slice_get xs k ≡ Some x → G (Some y) ≡ G (Some x)
    → G (slice_get (slice_set xs k y) n) ≡ G (slice_get xs n)
set_alike G [] n k x y q e = refl
set_alike G (w ∷ xs) zero zero x y q e = e ∙ sym (ap G q)
set_alike G (w ∷ xs) (suc n) zero x y q e = refl
set_alike G (w ∷ xs) zero (suc k) x y q e = refl
set_alike G (w ∷ xs) (suc n) (suc k) x y q e = set_alike G xs n k x y q e

pub changed_alike : {X Y : Type 0} (G : Option X → Y) (xs : List X) (n k : ℕ) (f : X → X) → ((x : X) → G (Some (f x)) ≡ G (Some x))
    → G (slice_get (changed_at k f xs) n) ≡ G (slice_get xs n)
changed_alike {X} {Y} G xs n k f e =
    by_given (λ (ys : List X). G (slice_get ys n) ≡ G (slice_get xs n)) (slice_get xs k) xs (λ x. slice_set xs k (f x)) refl
    (λ x q. set_alike G xs n k x (f x) q (e x))

pub pushed_alike : {X Y : Type 0} (G : Option X → Y) (xs : List X) (n : ℕ) (y : X) → G (Some y) ≡ G None
    → G (slice_get (xs ++ y ∷ []) n) ≡ G (slice_get xs n)
pushed_alike G [] zero y e = e
pushed_alike G [] (suc n) y e = refl
pushed_alike G (x ∷ xs) zero y e = refl
pushed_alike G (x ∷ xs) (suc n) y e = pushed_alike G xs n y e

-- ---- an end

side_true : (x y : Side) → same_side x y ≡ true → x ≡ y
side_true Client Client h = refl
side_true Client Server h = absurd (cc)
side_true Server Client h = absurd (cc)
side_true Server Server h = refl

pub same_end_true : (e f : EndId) → same_end e f ≡ true → e ≡ f
same_end_true e f h =
    let both = both_are (e.binding == f.binding) (same_side e.side f.side) h in
    let first : e ≡ record { binding = f.binding; side = e.side } =
    subst (λ (n : ℕ). e ≡ record { binding = n; side = e.side }) (eqb-true e.binding f.binding both.0) refl in
    subst (λ (x : Side). e ≡ record { binding = f.binding; side = x }) (side_true e.side f.side both.1) first

-- the end of a side, where its binding is there
abbrev pub end_at : Side → Option Binding → Option End
end_at side o = given o None λ b. Some (end_in side b)

-- what a change leaves of each end, it leaves of one
side_alike : {Y : Type 0} (G : Option End → Y) (side by : Side) (f : End → End) (b : Binding) → ((x : End) → G (Some (f x)) ≡ G (Some x))
    → G (Some (end_in side (with_end_in by f b))) ≡ G (Some (end_in side b))
side_alike G Client Client f b e = e b.client
side_alike G Client Server f b e = refl
side_alike G Server Client f b e = refl
side_alike G Server Server f b e = e b.server

pub end_alike : {Y : Type 0} (G : Option End → Y) (e f : EndId) (g : End → End) (s : State) → ((x : End) → G (Some (g x)) ≡ G (Some x))
    → G (end_of (change_end f g s) e) ≡ G (end_of s e)
end_alike G e f g s k =
    changed_alike (λ (o : Option Binding). G (end_at e.side o)) s.bindings e.binding f.binding (with_end_in f.side g)
    (λ b. side_alike G e.side f.side g b k)

other_side : (side by : Side) (f : End → End) (b : Binding) → same_side side by ≡ false → end_in side (with_end_in by f b) ≡ end_in side b
other_side Client Client f b h = absurd (cc)
other_side Client Server f b h = refl
other_side Server Client f b h = refl
other_side Server Server f b h = absurd (cc)

elsewhere_by : (t : Bool) (e f : EndId) (g : End → End) (s : State) → (e.binding == f.binding) ≡ t → (t && same_side e.side f.side) ≡ false
    → end_of (change_end f g s) e ≡ end_of s e
elsewhere_by true e f g s q h =
    changed_alike (end_at e.side) s.bindings e.binding f.binding (with_end_in f.side g)
    (λ b. ap (λ (x : End). Some x) (other_side e.side f.side g b h))
elsewhere_by false e f g s q h =
    ap (end_at e.side) (changed_other s.bindings f.binding e.binding (with_end_in f.side g) (eqb-false e.binding f.binding q))

-- a change of another end leaves it
pub elsewhere : (e f : EndId) (g : End → End) (s : State) → same_end e f ≡ false → end_of (change_end f g s) e ≡ end_of s e
elsewhere e f g s h = elsewhere_by (e.binding == f.binding) e f g s refl h

same_side_changed : (side : Side) (f : End → End) (b : Binding) → end_in side (with_end_in side f b) ≡ f (end_in side b)
same_side_changed Client f b = refl
same_side_changed Server f b = refl

here_by : (o : Option Binding) (e : EndId) (g : End → End) (s : State) (x : End) → slice_get s.bindings e.binding ≡ o → end_at e.side o ≡ Some x
    → end_of (change_end e g s) e ≡ Some (g x)
here_by None e g s x q h = absurd (cc)
here_by (Some b) e g s x q h =
    let is : end_in e.side b ≡ x = let u : Some (end_in e.side b) ≡ Some x = h in cc in
    ap (end_at e.side) (changed_here s.bindings e.binding (with_end_in e.side g) b q)
    ∙ ap (λ (y : End). Some y) (same_side_changed e.side g b ∙ ap g is)

-- and its own change is made
pub here : (e : EndId) (g : End → End) (s : State) (x : End) → end_of s e ≡ Some x → end_of (change_end e g s) e ≡ Some (g x)
here e g s x h = here_by (slice_get s.bindings e.binding) e g s x refl h

-- the end is there, and this holds of it
pub record Has (R : End → Type 0) (s : State) (e : EndId) : Type 0 where
  pub end : End
  pub there : end_of s e ≡ Some end
  pub holds : R end

has_by : (t : Bool) (R : End → Type 0) (e f : EndId) (g : End → End) (s : State) → same_end e f ≡ t → ((x : End) → R x → R (g x)) → Has R s e
    → Has R (change_end f g s) e
has_by true R e f g s q k h =
    subst (λ (w : EndId). Has R (change_end w g s) e) (same_end_true e f q)
    (record { end = g h.end; there = here e g s h.end h.there; holds = k h.end h.holds })
has_by false R e f g s q k h = record { end = h.end; there = elsewhere e f g s q ∙ h.there; holds = h.holds }

pub has_kept : (R : End → Type 0) (e f : EndId) (g : End → End) (s : State) → ((x : End) → R x → R (g x)) → Has R s e → Has R (change_end f g s) e
has_kept R e f g s k h = has_by (same_end e f) R e f g s refl k h

none_some : (o : Option End) → is_some o ≡ false → o ≡ None
none_some None h = refl
none_some (Some x) h = absurd (cc)

related_by : (o : Option End) (D : Option End → Option End → Type 0) → ((p : Option End) → D p p) → (e : EndId) (g : End → End) (s : State) → end_of s e ≡ o
    → ((x : End) → end_of s e ≡ Some x → D (Some x) (Some (g x))) → D (end_of s e) (end_of (change_end e g s) e)
related_by None D r e g s q k =
    let none : end_of (change_end e g s) e ≡ None = none_some _ (end_alike is_some e e g s (λ x. refl) ∙ ap is_some q) in
    subst (λ (p : Option End). D (end_of s e) p) (q ∙ sym none) (r (end_of s e))
related_by (Some x) D r e g s q k =
    subst (λ (p : Option End). D (end_of s e) p) (sym (here e g s x q)) (subst (λ (p : Option End). D p (Some (g x))) (sym q) (k x q))

related_at : (t : Bool) (D : Option End → Option End → Type 0) → ((p : Option End) → D p p) → (e f : EndId) (g : End → End) (s : State) → same_end e f ≡ t
    → ((x : End) → end_of s f ≡ Some x → D (Some x) (Some (g x))) → D (end_of s e) (end_of (change_end f g s) e)
related_at true D r e f g s q k =
    subst (λ (w : EndId). D (end_of s w) (end_of (change_end f g s) w)) (sym (same_end_true e f q)) (related_by (end_of s f) D r f g s refl k)
related_at false D r e f g s q k = subst (λ (p : Option End). D (end_of s e) p) (sym (elsewhere e f g s q)) (r (end_of s e))

-- what a change makes of an end is related to it, and it may be another's
pub end_related : (D : Option End → Option End → Type 0) → ((p : Option End) → D p p) → (e f : EndId) (g : End → End) (s : State)
    → ((x : End) → end_of s f ≡ Some x → D (Some x) (Some (g x))) → D (end_of s e) (end_of (change_end f g s) e)
end_related D r e f g s k = related_at (same_end e f) D r e f g s refl k
