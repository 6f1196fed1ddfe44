-- What is in a list after an element is added or taken out, and how many there may be.
use Rattle.std.proofs.Common.{◌≡◌, ◌≢◌, ℕ, ◌+◌, ◌<◌, ◌≤◌, ◌==◌, ◌||◌, Bool, true, false, inl, inr, List, [], ◌∷◌, ◌++◌, length, zero, suc, sym, ◌∙◌, ap, subst, refl, arith}
use Rattle.std.proofs.lemmas.Bool.{false≢true, eqb-false, eq-eqb, ne_eqb, cases_eq, or_parts, or_from, or_left, not_from_true, not_from_false, cond-true, cond-false}
use Rattle.std.proofs.lemmas.Bool.Decides.{nat_tests}
use Rattle.fl_lists.specs.ThreeLists.{is_in, without, NoRepeat}

-- an element and what is no element differ
pub different : (k m : ℕ) (xs : List ℕ) → is_in k xs ≡ true → is_in m xs ≡ false → k ≢ m
different k m xs here missing same = false≢true (sym missing ∙ ap (λ (z : ℕ). is_in z xs) (sym same) ∙ here)

-- the first of a list is in it
pub first_is_in : (x : ℕ) (xs : List ℕ) → is_in x (x ∷ xs) ≡ true
first_is_in x xs = or_left _ _ (eq-eqb x x refl)

pub is_in-push : (k c : ℕ) (xs : List ℕ) → is_in k (xs ++ c ∷ []) ≡ (is_in k xs || (c == k))
is_in-push k c [] = grind (arith, nat_tests)
is_in-push k c (x ∷ xs) = grind (arith, nat_tests, is_in-push k c xs)

-- taking c out leaves the rest
pub without_first : (c x : ℕ) (xs : List ℕ) → x ≡ c → without c (x ∷ xs) ≡ without c xs
without_first c x xs e = cond-false _ _ _ (not_from_true _ (eq-eqb x c e))

pub without_later : (c x : ℕ) (xs : List ℕ) → x ≢ c → without c (x ∷ xs) ≡ x ∷ without c xs
without_later c x xs ne = cond-true _ _ _ (not_from_false _ (ne_eqb x c ne))

pub without_none : (c : ℕ) (xs : List ℕ) → is_in c xs ≡ false → without c xs ≡ xs
without_none c [] h = refl
without_none c (x ∷ xs) h =
    let parts = or_parts (x == c) (is_in c xs) h in
    without_later c x xs (eqb-false x c parts.0) ∙ ap (λ (ys : List ℕ). x ∷ ys) (without_none c xs parts.1)

pub is_in-without : (k c : ℕ) (xs : List ℕ) → k ≢ c → is_in k (without c xs) ≡ is_in k xs
is_in-without k c [] ne = refl
is_in-without k c (x ∷ xs) ne = elim (cases_eq x c) [
  | inl e ↦ ap (is_in k) (without_first c x xs e) ∙ is_in-without k c xs ne
      ∙ sym (ap (λ (t : Bool). t || is_in k xs) (ne_eqb x k (λ s. ne (sym s ∙ e))))
  | inr other ↦ ap (is_in k) (without_later c x xs other) ∙ ap (λ (t : Bool). (x == k) || t) (is_in-without k c xs ne)
]

pub left_out : (c : ℕ) (xs : List ℕ) → is_in c (without c xs) ≡ false
left_out c [] = refl
left_out c (x ∷ xs) = elim (cases_eq x c) [
  | inl e ↦ ap (is_in c) (without_first c x xs e) ∙ left_out c xs
  | inr other ↦ ap (is_in c) (without_later c x xs other) ∙ or_from _ _ (ne_eqb x c other) (left_out c xs)
]

-- what is left was there
pub is_in_from-without : (k c : ℕ) (xs : List ℕ) → is_in k (without c xs) ≡ true → (k ≢ c) × (is_in k xs ≡ true)
is_in_from-without k c xs h =
    let ne : k ≢ c = λ e. false≢true (sym (left_out c xs) ∙ ap (λ (z : ℕ). is_in z (without c xs)) (sym e) ∙ h) in
    (ne, sym (is_in-without k c xs ne) ∙ h)

-- what was missing stays missing
pub missing-without : (k c : ℕ) (xs : List ℕ) → is_in k xs ≡ false → is_in k (without c xs) ≡ false
missing-without k c xs h = elim (cases_eq k c) [
  | inl e ↦ ap (λ (z : ℕ). is_in z (without c xs)) e ∙ left_out c xs
  | inr ne ↦ is_in-without k c xs ne ∙ h
]

pub NoRepeat-without : (c : ℕ) (xs : List ℕ) → NoRepeat xs → NoRepeat (without c xs)
NoRepeat-without c [] h = tt
NoRepeat-without c (x ∷ xs) h = elim (cases_eq x c) [
  | inl e ↦ subst NoRepeat (sym (without_first c x xs e)) (NoRepeat-without c xs h.1)
  | inr other ↦ subst NoRepeat (sym (without_later c x xs other)) (missing-without x c xs h.0, NoRepeat-without c xs h.1)
]

pub NoRepeat-push : (c : ℕ) (xs : List ℕ) → NoRepeat xs → is_in c xs ≡ false → NoRepeat (xs ++ c ∷ [])
NoRepeat-push c [] h new = (refl, tt)
NoRepeat-push c (x ∷ xs) h new =
    let parts = or_parts (x == c) (is_in c xs) new in
    let ne : c ≢ x = λ e. eqb-false x c parts.0 (sym e) in
    (is_in-push x c xs ∙ or_from _ _ h.0 (ne_eqb c x ne), NoRepeat-push c xs h.1 parts.1)

length-without : (c : ℕ) (xs : List ℕ) → NoRepeat xs → length xs ≤ length (without c xs) + 1
length-without c [] h = omega arith
length-without c (x ∷ xs) h = elim (cases_eq x c) [
  | inl e ↦
      let same = without_first c x xs e ∙ without_none c xs (ap (λ (z : ℕ). is_in z xs) (sym e) ∙ h.0) in
      omega (arith, ap length same)
  | inr other ↦ omega (arith, ap length (without_later c x xs other), length-without c xs h.1)
]

-- a list without repetition of numbers below n has at most n elements
pub few_below : (n : ℕ) (xs : List ℕ) → NoRepeat xs → ((k : ℕ) → is_in k xs ≡ true → k < n) → length xs ≤ n
few_below n [] once below = omega arith
few_below zero (x ∷ xs) once below = absurd (omega (arith, below x (first_is_in x xs)))
few_below (suc n) (x ∷ xs) once below =
    let left = few_below n (without n (x ∷ xs)) (NoRepeat-without n (x ∷ xs) once) (λ k h.
    let parts = is_in_from-without k n (x ∷ xs) h in
    let ne : k ≢ n = parts.0 in
    omega (arith, below k parts.1)) in
    omega (arith, length-without n (x ∷ xs) once, left)
