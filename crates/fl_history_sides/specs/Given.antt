-- Proofs: what is lent is the side of its number, and comes back there.
use Rattle.std.specs.Prelude.{ℕ, zero, suc, pred, ◌≡◌, List, [], ◌∷◌, length, map, slice_get, slice_set, slice_index_or}
use Rattle.std.specs.Prelude.{Option, Some, None}
use Rattle.std.proofs.Common.{refl, sym, ap, subst, ◌∙◌}
use Rattle.fl_history_rings.specs.declared.place.RingSide.{RingSide}
use Rattle.fl_history_rings.specs.Sides.{side_from}
use Rattle.fl_history_sides.specs.States.{side_shown}
use Rattle.fl_history_sides.specs.Lent.{TheLent, TheRest, states_of, state_of, rest_of, states_in, lending, Lends, without}

-- ---- what is there

abbrev Holds : {A : Type 0} → Option A → Type 0
Holds None = ⊥
Holds (Some x) = Unit {0}

nothing_there : {A : Type 0} (x : A) → (let none : Option A = None in none ≡ Some x) → ⊥
nothing_there x e = subst (λ o. Holds o) (sym e) tt

abbrev value_in : {A : Type 0} → A → Option A → A
value_in d None = d
value_in d (Some x) = x

abbrev IsZero : ℕ → Type 0
IsZero zero = Unit {0}
IsZero (suc n) = ⊥

abbrev rest_in : {A : Type 0} → List A → List A
rest_in [] = []
rest_in (x ∷ xs) = xs

abbrev first_in : {A : Type 0} → A → List A → A
first_in d [] = d
first_in d (x ∷ xs) = x

-- ---- lists

-- what stands in a place of a list that was gone over
mapped : {A B : Type 0} (f : A → B) (xs : List A) (n : ℕ) (a d : A) → slice_get xs n ≡ Some a
    → slice_get (map f xs) n ≡ Some (f (slice_index_or xs n d))
mapped f [] n a d at = absurd (nothing_there a at)
mapped f (x ∷ xs) zero a d at = refl
mapped f (x ∷ xs) (suc n) a d at = mapped f xs n a d at

-- a list as long as another has something where that has
as_long : {A : Type 0} (xs ys : List A) (n : ℕ) (x : A) → length xs ≡ length ys → slice_get xs n ≡ Some x
    → (y : A) × (slice_get ys n ≡ Some y)
as_long [] ys n x long at = absurd (nothing_there x at)
as_long (x1 ∷ xs) [] n x long at = absurd (subst (λ k. IsZero k) (sym long) tt)
as_long (x1 ∷ xs) (y ∷ ys) zero x long at = (y, refl)
as_long (x1 ∷ xs) (y ∷ ys) (suc n) x long at = as_long xs ys n x (ap pred long) at

-- a list that differs from another in one place alone is that with its own there
put_back : {A : Type 0} (xs ys : List A) (n : ℕ) (x y : A) → slice_get xs n ≡ Some x → slice_get ys n ≡ Some y
    → without n xs ≡ without n ys → ys ≡ slice_set xs n y
put_back [] ys n x y at there same = absurd (nothing_there x at)
put_back (x1 ∷ xs) [] n x y at there same = absurd (nothing_there y there)
put_back (x1 ∷ xs) (z ∷ zs) zero x y at there same = ap (λ c. c ∷ zs) (ap (value_in z) there) ∙ ap (λ l. y ∷ l) (sym same)
put_back (x1 ∷ xs) (z ∷ zs) (suc n) x y at there same =
    ap (λ c. c ∷ zs) (sym (ap (first_in z) same)) ∙ ap (λ l. x1 ∷ l) (put_back xs zs n x y at there (ap rest_in same))

-- ---- what is lent

one_of : (s : TheLent) (n : ℕ) (a : RingSide) → slice_get s.sides n ≡ Some a
    → slice_get (states_of s) n ≡ Some (state_of (lending s n))
one_of s n a at = mapped (side_shown s.core) s.sides n a (side_from [] 0 0) at

pub lent_stands : (o : Option TheLent) (n : ℕ) (t : TheLent) → Lends o n t
    → slice_get (states_in o) n ≡ Some (state_of t)
lent_stands None n t lends = absurd lends
lent_stands (Some s) n t (a, at, is) =
    subst (λ (x : TheLent). slice_get (states_of s) n ≡ Some (state_of x)) (sym is) (one_of s n a at)

back : (s : TheLent) (n : ℕ) (a : RingSide) (t : TheLent) → slice_get s.sides n ≡ Some a → rest_of (lending s n) ≡ rest_of t
    → states_of t ≡ slice_set (states_of s) n (state_of t)
back s n a t at same =
    let place : n ≡ t.at = ap (λ (r : TheRest). r.at) same in
    let there = as_long s.sides t.sides n a (ap (λ (r : TheRest). r.count) same) at in
    let one : slice_get (states_of t) n ≡ Some (state_of (lending t n)) = one_of t n there.0 there.1 in
    let stands : slice_get (states_of t) n ≡ Some (state_of t) = one ∙ ap (λ k. Some (state_of (lending t k))) place in
    let others : without n (states_of s) ≡ without n (states_of t)
    = ap (λ (r : TheRest). r.others) same ∙ ap (λ k. without k (states_of t)) (sym place) in
    put_back (states_of s) (states_of t) n (state_of (lending s n)) (state_of t) (one_of s n a at) stands others

pub returned_stands : (o : Option TheLent) (n : ℕ) (s t : TheLent) → Lends o n s → rest_of s ≡ rest_of t
    → states_in (Some t) ≡ slice_set (states_in o) n (state_of t)
returned_stands None n s t lends same = absurd lends
returned_stands (Some r) n s t (a, at, is) same = back r n a t at (ap rest_of (sym is) ∙ same)
