-- What stands at a place of a list after an element is replaced or added.
use Rattle.std.proofs.Common.{◌≡◌, ◌≢◌, ◌⊎◌, inl, inr, refl, sym, ap, ◌∙◌, ℕ, zero, suc, List, [], ◌∷◌, ◌++◌, length, take, slice_get, slice_set, Some, length-append, arith}
use Rattle.std.proofs.lemmas.Option.{same_Some}

-- one place holds one element
pub one_stands : {X : Type 0} (xs : List X) (i : ℕ) (x y : X) → slice_get xs i ≡ Some x → slice_get xs i ≡ Some y → x ≡ y
one_stands xs i x y e f = same_Some x y (sym e ∙ f)

-- an element that replaces another stands in its place
pub set_here : {X : Type 0} (xs : List X) (i : ℕ) (x y : X) → slice_get xs i ≡ Some x → slice_get (slice_set xs i y) i ≡ Some y
set_here [] i x y e = absurd (cc)
set_here (z ∷ xs) zero x y e = refl
set_here (z ∷ xs) (suc i) x y e = set_here xs i x y e

-- the others stay
pub set_elsewhere : {X : Type 0} (xs : List X) (i j : ℕ) (y : X) → j ≢ i → slice_get (slice_set xs i y) j ≡ slice_get xs j
set_elsewhere [] i j y ne = refl
set_elsewhere (x ∷ xs) zero zero y ne = absurd (ne refl)
set_elsewhere (x ∷ xs) zero (suc j) y ne = refl
set_elsewhere (x ∷ xs) (suc i) zero y ne = refl
set_elsewhere (x ∷ xs) (suc i) (suc j) y ne = set_elsewhere xs i j y (λ e. ne (ap suc e))

-- an element that replaces itself changes nothing
pub set_same : {X : Type 0} (xs : List X) (i : ℕ) (x : X) → slice_get xs i ≡ Some x → slice_set xs i x ≡ xs
set_same [] i x e = refl
set_same (z ∷ xs) zero x e = let same : z ≡ x = cc in ap (λ y. y ∷ xs) (sym same)
set_same (z ∷ xs) (suc i) x e = ap (λ ys. z ∷ ys) (set_same xs i x e)

-- of two that replace each other, the later stands
pub set_twice : {X : Type 0} (xs : List X) (i : ℕ) (x y : X) → slice_set (slice_set xs i x) i y ≡ slice_set xs i y
set_twice [] i x y = refl
set_twice (z ∷ xs) zero x y = refl
set_twice (z ∷ xs) (suc i) x y = ap (λ ys. z ∷ ys) (set_twice xs i x y)

-- two lists with the same end
pub last_parts : {X : Type 0} (xs ys : List X) (x y : X) → xs ++ x ∷ [] ≡ ys ++ y ∷ [] → (xs ≡ ys) × (x ≡ y)
last_parts [] [] x y e = let same : x ≡ y = cc in (refl, same)
last_parts [] (z ∷ ys) x y e = absurd (omega (arith, ap length e, length-append ys (y ∷ [])))
last_parts (z ∷ xs) [] x y e = absurd (omega (arith, ap length e, length-append xs (x ∷ [])))
last_parts (a ∷ xs) (b ∷ ys) x y e =
    let head : a ≡ b = cc in
    let tail : xs ++ x ∷ [] ≡ ys ++ y ∷ [] = cc in
    let parts = last_parts xs ys x y tail in
    let lists : a ∷ xs ≡ b ∷ ys = cc (head, parts.0) in
    (lists, parts.1)

-- all but the element added last
pub without_last : {X : Type 0} (xs : List X) (x : X) (n : ℕ) → n ≡ length xs → take n (xs ++ x ∷ []) ≡ xs
without_last [] x zero e = refl
without_last [] x (suc n) e = absurd (omega (arith, e))
without_last (z ∷ xs) x zero e = absurd (omega (arith, e))
without_last (z ∷ xs) x (suc n) e = let same : n ≡ length xs = omega (arith, e) in ap (λ ys. z ∷ ys) (without_last xs x n same)

-- an element stays where the list gains one
pub push_stays : {X : Type 0} (xs : List X) (y : X) (i : ℕ) (x : X) → slice_get xs i ≡ Some x → slice_get (xs ++ y ∷ []) i ≡ Some x
push_stays [] y i x e = absurd (cc)
push_stays (z ∷ xs) y zero x e = e
push_stays (z ∷ xs) y (suc i) x e = push_stays xs y i x e

-- and that one stands behind all others
pub push_last : {X : Type 0} (xs : List X) (y : X) → slice_get (xs ++ y ∷ []) (length xs) ≡ Some y
push_last [] y = refl
push_last (x ∷ xs) y = push_last xs y

-- what stands in a list that gained an element is that one, or was there
pub push_cases : {X : Type 0} (xs : List X) (y : X) (i : ℕ) (x : X) → slice_get (xs ++ y ∷ []) i ≡ Some x → ((i ≡ length xs) × (x ≡ y)) ⊎ (slice_get xs i ≡ Some x)
push_cases [] y zero x e = let same : x ≡ y = cc in inl (refl, same)
push_cases [] y (suc i) x e = absurd (cc)
push_cases (z ∷ xs) y zero x e = inr e
push_cases (z ∷ xs) y (suc i) x e = elim (push_cases xs y i x e) [
  | inl here ↦ let at : suc i ≡ length (z ∷ xs) = omega (arith, here.0) in inl (at, here.1)
  | inr there ↦ inr there
]
