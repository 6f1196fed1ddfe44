-- Lists with an element more.
use Rattle.std.proofs.Common.{◌≡◌, ◌⊎◌, inl, inr, ⊎_elim, refl, sym, ap, ◌∙◌, ℕ, zero, suc, ◌==◌, Bool, true, false, List, [], ◌∷◌, ◌++◌, length, slice_get, Option, Some, None, arith}
use Rattle.std.proofs.lemmas.Bool.Decides.{nat_tests}

-- ---- tests on numbers

next_by : (n c : ℕ) (b : Bool) → (n == c) ≡ b → (suc n == suc c) ≡ b
next_by n c true e = grind (arith, nat_tests, e)
next_by n c false e = grind (arith, nat_tests, e)

pub next_test : (n c : ℕ) → (suc n == suc c) ≡ (n == c)
next_test n c = next_by n c (n == c) refl

pub none_before : (c : ℕ) → (zero == suc c) ≡ false
none_before c = grind (arith, nat_tests)

pub none_behind : (n : ℕ) → (suc n == zero) ≡ false
none_behind n = grind (arith, nat_tests)

pub self_test : (n : ℕ) → (n == n) ≡ true
self_test n = grind (arith, nat_tests)

-- ---- places

pub stays_at : {X : Type 0} (xs ys : List X) (n : ℕ) (x : X) → slice_get xs n ≡ Some x → slice_get (xs ++ ys) n ≡ Some x
stays_at [] ys n x e = absurd cc
stays_at (z ∷ xs) ys zero x e = e
stays_at (z ∷ xs) ys (suc n) x e = stays_at xs ys n x e

pub last_at : {X : Type 0} (xs : List X) (x : X) → slice_get (xs ++ x ∷ []) (length xs) ≡ Some x
last_at [] x = refl
last_at (z ∷ xs) x = last_at xs x

-- what stands in a list with one more stood there, or is that one
pub one_more : {X : Type 0} (xs : List X) (x y : X) (n : ℕ) → slice_get (xs ++ x ∷ []) n ≡ Some y → (slice_get xs n ≡ Some y) ⊎ ((n ≡ length xs) × (y ≡ x))
one_more [] x y zero e = inr (refl, cc)
one_more [] x y (suc n) e = absurd cc
one_more (z ∷ xs) x y zero e = inl e
one_more (z ∷ xs) x y (suc n) e = ⊎_elim (λ h. inl h) (λ h. inr (ap suc h.0, h.1)) (one_more xs x y n e)

-- a list is empty, or has a last element
pub data Ended {X : Type 0} (xs : List X) : Type 0 where
  empty : xs ≡ [] → Ended xs
  behind : (front : List X) (last : X) → xs ≡ front ++ last ∷ [] → Ended xs

pub ended : {X : Type 0} (xs : List X) → Ended xs
ended [] = empty refl
ended (x ∷ xs) = ended_by x xs (ended xs)
  where
    ended_by : {X : Type 0} (x : X) (xs : List X) → Ended xs → Ended (x ∷ xs)
    ended_by x xs (empty e) = behind [] x (ap (λ ys. x ∷ ys) e)
    ended_by x xs (behind front last e) = behind (x ∷ front) last (ap (λ ys. x ∷ ys) e)

-- two lists with a last element each are the same only where both parts are
pub same_end : {X : Type 0} (xs ys : List X) (x y : X) → xs ++ x ∷ [] ≡ ys ++ y ∷ [] → (xs ≡ ys) × (x ≡ y)
same_end [] [] x y e = (refl, cc)
same_end [] (z ∷ []) x y e = absurd cc
same_end [] (z ∷ w ∷ ys) x y e = absurd cc
same_end (z ∷ []) [] x y e = absurd cc
same_end (z ∷ w ∷ xs) [] x y e = absurd cc
same_end (z ∷ xs) (w ∷ ys) x y e =
    let rest : xs ++ x ∷ [] ≡ ys ++ y ∷ [] = cc in
    let first : z ≡ w = cc in
    let more = same_end xs ys x y rest in
    (ap (λ v. v ∷ xs) first ∙ ap (λ vs. w ∷ vs) more.0, more.1)
