-- Lists: what stands at a place after a write or a push.
use Rattle.std.proofs.Common.{◌≡◌, ◌≢◌, refl, sym, ap, ◌∙◌, ℕ, zero, suc, ◌-◌, ◌<◌, ◌≤◌, ◌⊎◌, inl, inr, List, [], ◌∷◌, ◌++◌, length, map, take, replicate, slice_get, slice_set, slice_index_or, Option, Some, length-append, arith}

-- what stands at a place after a write is what was written there, or what stood there before
pub set_cases : {X : Type 0} (xs : List X) (i : ℕ) (x : X) (j : ℕ) (y : X) → slice_get (slice_set xs i x) j ≡ Some y → ((j ≡ i) × (y ≡ x)) ⊎ ((j ≢ i) × (slice_get xs j ≡ Some y))
set_cases [] i x j y e = absurd (cc)
set_cases (z ∷ xs) zero x zero y e = let same : y ≡ x = cc in inl (refl, same)
set_cases (z ∷ xs) zero x (suc j) y e = inr ((λ h. omega arith), e)
set_cases (z ∷ xs) (suc i) x zero y e = inr ((λ h. omega arith), e)
set_cases (z ∷ xs) (suc i) x (suc j) y e =
    elim (set_cases xs i x j y e) [
      | inl (a, b) ↦ inl (ap (λ n. suc n) a, b)
      | inr (a, b) ↦ inr ((λ h. a (omega arith)), b)
    ]

pub set_here : {X : Type 0} (xs : List X) (i : ℕ) (x y : X) → slice_get xs i ≡ Some x → slice_get (slice_set xs i y) i ≡ Some y
set_here [] i x y e = absurd (cc)
set_here (z ∷ xs) zero x y e = refl
set_here (z ∷ xs) (suc i) x y e = set_here xs i x y e

pub set_there : {X : Type 0} (xs : List X) (i : ℕ) (x : X) (j : ℕ) (y : X) → slice_get xs j ≡ Some y → j ≢ i → slice_get (slice_set xs i x) j ≡ Some y
set_there [] i x j y e n = e
set_there (z ∷ xs) zero x zero y e n = absurd (n refl)
set_there (z ∷ xs) zero x (suc j) y e n = e
set_there (z ∷ xs) (suc i) x zero y e n = e
set_there (z ∷ xs) (suc i) x (suc j) y e n = set_there xs i x j y e (λ h. n (ap (λ k. suc k) h))

-- an element stays where the list gains others
pub push_keeps : {X : Type 0} (xs ys : List X) (i : ℕ) (x : X) → slice_get xs i ≡ Some x → slice_get (xs ++ ys) i ≡ Some x
push_keeps [] ys i x e = absurd (cc)
push_keeps (z ∷ xs) ys zero x e = e
push_keeps (z ∷ xs) ys (suc i) x e = push_keeps xs ys i x e

-- what stands in a list that gained one stood there before, or is the last
pub push_cases : {X : Type 0} (xs : List X) (y : X) (i : ℕ) (x : X) → slice_get (xs ++ y ∷ []) i ≡ Some x → (slice_get xs i ≡ Some x) ⊎ ((i ≡ length xs) × (x ≡ y))
push_cases [] y zero x e = let same : x ≡ y = cc in inr (refl, same)
push_cases [] y (suc i) x e = absurd (cc)
push_cases (z ∷ xs) y zero x e = inl e
push_cases (z ∷ xs) y (suc i) x e =
    elim (push_cases xs y i x e) [
      | inl a ↦ inl a
      | inr (a, b) ↦ inr (ap (λ n. suc n) a, b)
    ]

-- what stands in a list that gained so many of one kind stood there before, or is of that kind
pub fill_cases : {X : Type 0} (xs : List X) (n : ℕ) (y : X) (i : ℕ) (x : X) → slice_get (xs ++ replicate n y) i ≡ Some x → (slice_get xs i ≡ Some x) ⊎ (x ≡ y)
fill_cases [] zero y i x e = absurd (cc)
fill_cases [] (suc n) y zero x e = let same : x ≡ y = cc in inr same
fill_cases [] (suc n) y (suc i) x e = fill_cases [] n y i x e
fill_cases (z ∷ xs) n y zero x e = inl e
fill_cases (z ∷ xs) n y (suc i) x e = fill_cases xs n y i x e

-- two functions that agree on each element of a list give one list
pub map_same : {X Y : Type 0} (f g : X → Y) (xs : List X) → ((i : ℕ) (x : X) → slice_get xs i ≡ Some x → f x ≡ g x) → map f xs ≡ map g xs
map_same f g [] h = refl
map_same f g (x ∷ xs) h =
    ap (λ y. y ∷ map f xs) (h 0 x refl) ∙ ap (λ ys. g x ∷ ys) (map_same f g xs (λ i y e. h (suc i) y e))

pub index_map : {X Y : Type 0} (f : X → Y) (xs : List X) (i : ℕ) (d : X) → slice_index_or (map f xs) i (f d) ≡ f (slice_index_or xs i d)
index_map f [] i d = refl
index_map f (x ∷ xs) zero d = refl
index_map f (x ∷ xs) (suc i) d = index_map f xs i d

-- what is found in place of a default stands there
pub index_found : {X : Type 0} (xs : List X) (i : ℕ) (d x : X) → slice_index_or xs i d ≡ x → x ≢ d → slice_get xs i ≡ Some x
index_found [] i d x e n = absurd (n (sym e))
index_found {X} (z ∷ xs) zero d x e n = let some : X → Option X = λ v. Some v in ap some e
index_found (z ∷ xs) (suc i) d x e n = index_found xs i d x e n

pub index_there : {X : Type 0} (xs : List X) (i : ℕ) (d x : X) → slice_get xs i ≡ Some x → slice_index_or xs i d ≡ x
index_there [] i d x e = absurd (cc)
index_there (z ∷ xs) zero d x e = cc
index_there (z ∷ xs) (suc i) d x e = index_there xs i d x e

-- a place within a list has an element
pub at_within : {X : Type 0} (xs : List X) (i : ℕ) → i < length xs → (x : X) × (slice_get xs i ≡ Some x)
at_within [] i l = absurd (omega arith)
at_within (x ∷ xs) zero l = (x, refl)
at_within (x ∷ xs) (suc i) l = at_within xs i (omega arith)

pub within : {X : Type 0} (xs : List X) (i : ℕ) (x : X) → slice_get xs i ≡ Some x → i < length xs
within [] i x e = absurd (cc)
within (z ∷ xs) zero x e = omega arith
within (z ∷ xs) (suc i) x e = let l = within xs i x e in omega arith

-- an element is replaced by itself
pub set_same : {X : Type 0} (xs : List X) (i : ℕ) (x : X) → slice_get xs i ≡ Some x → slice_set xs i x ≡ xs
set_same [] i x e = refl
set_same (z ∷ xs) zero x e = let same : x ≡ z = cc in ap (λ y. y ∷ xs) same
set_same (z ∷ xs) (suc i) x e = ap (λ ys. z ∷ ys) (set_same xs i x e)

-- two writes at two places, in either order
pub set_swap : {X : Type 0} (xs : List X) (i j : ℕ) (x y : X) → i ≢ j → slice_set (slice_set xs i x) j y ≡ slice_set (slice_set xs j y) i x
set_swap [] i j x y n = refl
set_swap (z ∷ xs) zero zero x y n = absurd (n refl)
set_swap (z ∷ xs) zero (suc j) x y n = refl
set_swap (z ∷ xs) (suc i) zero x y n = refl
set_swap (z ∷ xs) (suc i) (suc j) x y n = ap (λ ys. z ∷ ys) (set_swap xs i j x y (λ h. n (ap (λ k. suc k) h)))

-- a second write at a place replaces the first
pub set_set : {X : Type 0} (xs : List X) (i : ℕ) (x y : X) → slice_set (slice_set xs i x) i y ≡ slice_set xs i y
set_set [] i x y = refl
set_set (z ∷ xs) zero x y = refl
set_set (z ∷ xs) (suc i) x y = ap (λ ys. z ∷ ys) (set_set xs i x y)

-- as many elements as the list has, or more
pub take_past : {X : Type 0} (xs : List X) (n : ℕ) → length xs ≤ n → take n xs ≡ xs
take_past [] zero l = refl
take_past [] (suc n) l = refl
take_past (x ∷ xs) zero l = absurd (omega arith)
take_past (x ∷ xs) (suc n) l = ap (λ ys. x ∷ ys) (take_past xs n (omega arith))

-- the first elements of a list stand in it
pub take_within : {X : Type 0} (xs : List X) (n i : ℕ) (x : X) → slice_get (take n xs) i ≡ Some x → slice_get xs i ≡ Some x
take_within [] zero i x e = e
take_within [] (suc n) i x e = e
take_within (y ∷ xs) zero i x e = absurd (cc)
take_within (y ∷ xs) (suc n) zero x e = e
take_within (y ∷ xs) (suc n) (suc i) x e = take_within xs n i x e

pub take_there : {X : Type 0} (xs : List X) (n i : ℕ) (x : X) → i < n → slice_get xs i ≡ Some x → slice_get (take n xs) i ≡ Some x
take_there xs zero i x l e = absurd (omega (arith, l))
take_there [] (suc n) i x l e = e
take_there (y ∷ xs) (suc n) zero x l e = e
take_there (y ∷ xs) (suc n) (suc i) x l e = take_there xs n i x (omega (arith, l)) e

pub take_map : {X Y : Type 0} (f : X → Y) (n : ℕ) (xs : List X) → map f (take n xs) ≡ take n (map f xs)
take_map f zero xs = refl
take_map f (suc n) [] = refl
take_map f (suc n) (x ∷ xs) = ap (λ ys. f x ∷ ys) (take_map f n xs)

-- all but what was added last
pub take_front : {X : Type 0} (xs ys : List X) (n : ℕ) → n ≡ length xs → take n (xs ++ ys) ≡ xs
take_front [] ys zero e = refl
take_front [] ys (suc n) e = absurd (omega (arith, e))
take_front (x ∷ xs) ys zero e = absurd (omega (arith, e))
take_front (x ∷ xs) ys (suc n) e = let same : n ≡ length xs = omega (arith, e) in ap (λ zs. x ∷ zs) (take_front xs ys n same)

-- a list without its last element, which it is told
pub pop_front : {X : Type 0} (all xs front : List X) (x : X) (many : ℕ) → many ≡ length all → front ≡ take (many - 1) all → all ≡ xs ++ x ∷ [] → front ≡ xs
pop_front all xs front x many many_is front_is are =
    let few : many - 1 ≡ length xs = omega (arith, many_is, ap length are, length-append xs (x ∷ [])) in
    front_is ∙ ap (take (many - 1)) are ∙ take_front xs (x ∷ []) (many - 1) few
