-- Numbers, and the indexes of their nodes.
use Rattle.std.proofs.Common.{◌≡◌, ◌≢◌, ℕ, ◌+◌, ◌-◌, ◌<◌, ◌≤◌, ◌||◌, Bool, inl, inr, List, [], ◌∷◌, ◌++◌, sym, ◌∙◌, ap, refl, arith}
use Rattle.std.proofs.lemmas.Bool.{eq-eqb, ne_eqb, cases_eq, or_left}
use Rattle.fl_lists.specs.declared.place.Place.{Place}
use Rattle.fl_lists.specs.declared.place.Place.TheVariants.{Idle, Polled, Pending}
use Rattle.fl_lists.specs.ThreeLists.{is_in, without, NoRepeat}
use Rattle.fl_lists.specs.Table.{head_of, index_of, indexes, numbers}
use Rattle.fl_lists.proofs.Members.{without_first, without_later}

-- the heads stand before the nodes
pub head_before : (c : ℕ) (p : Place) → index_of c ≢ head_of p
head_before c Idle e = omega arith
head_before c Polled e = omega arith
head_before c Pending e = omega arith

pub is_in-indexes : (c : ℕ) (xs : List ℕ) → is_in (index_of c) (indexes xs) ≡ is_in c xs
is_in-indexes c [] = refl
is_in-indexes c (x ∷ xs) = elim (cases_eq x c) [
  | inl e ↦
      or_left _ _ (eq-eqb (x + 3) (c + 3) (ap (λ (n : ℕ). n + 3) e)) ∙ sym (or_left _ _ (eq-eqb x c e))
  | inr ne ↦
      ap (λ (t : Bool). t || is_in (index_of c) (indexes xs)) (ne_eqb (x + 3) (c + 3) (λ e. ne (omega arith)))
      ∙ is_in-indexes c xs ∙ sym (ap (λ (t : Bool). t || is_in c xs) (ne_eqb x c ne))
]

pub without-indexes : (c : ℕ) (xs : List ℕ) → without (index_of c) (indexes xs) ≡ indexes (without c xs)
without-indexes c [] = refl
without-indexes c (x ∷ xs) = elim (cases_eq x c) [
  | inl e ↦
      without_first (c + 3) (x + 3) (indexes xs) (ap (λ (n : ℕ). n + 3) e) ∙ without-indexes c xs
      ∙ ap (λ (ys : List ℕ). indexes ys) (sym (without_first c x xs e))
  | inr ne ↦
      without_later (c + 3) (x + 3) (indexes xs) (λ e. ne (omega arith))
      ∙ ap (λ (ys : List ℕ). (x + 3) ∷ ys) (without-indexes c xs)
      ∙ ap (λ (ys : List ℕ). indexes ys) (sym (without_later c x xs ne))
]

pub indexes_push : (xs : List ℕ) (c : ℕ) → indexes xs ++ index_of c ∷ [] ≡ indexes (xs ++ c ∷ [])
indexes_push [] c = refl
indexes_push (x ∷ xs) c = ap (λ (ys : List ℕ). (x + 3) ∷ ys) (indexes_push xs c)

pub NoRepeat_of : (xs : List ℕ) → NoRepeat (indexes xs) → NoRepeat xs
NoRepeat_of [] h = tt
NoRepeat_of (x ∷ xs) h = (sym (is_in-indexes x xs) ∙ h.0, NoRepeat_of xs h.1)

pub number_back : (c : ℕ) → index_of c - 3 ≡ c
number_back c = omega arith

pub numbers-indexes : (xs : List ℕ) → numbers (indexes xs) ≡ xs
numbers-indexes [] = refl
numbers-indexes (x ∷ xs) =
    ap (λ (y : ℕ). y ∷ numbers (indexes xs)) (number_back x) ∙ ap (λ (ys : List ℕ). x ∷ ys) (numbers-indexes xs)
