-- What stands at a place of lists that are made binding by binding.
use Rattle.std.proofs.Common.{◌≡◌, refl, sym, ap, ℕ, zero, suc, ◌+◌, ◌*◌, ◌<◌, ◌≤◌, List, [], ◌∷◌, ◌++◌, map, length, slice_get, Some, None, Bool, true, false, if◌then◌else◌, ◌⊎◌, inl, inr, arith}
use Rattle.std.specs.List.{flat_map, range_with_len}
use Rattle.std.proofs.lemmas.Option.{same_Some}

-- ---- one thing a number

pub map_at : {A : Type 0} (what : ℕ → A) (a n i j : ℕ) → i < n → a + i ≡ j → slice_get (map what (range_with_len a n)) i ≡ Some (what j)
map_at what a zero i j l is = absurd (omega (arith, l))
map_at what a (suc n) zero j l is = let same : a ≡ j = omega (arith, is) in ap (λ (k : ℕ). Some (what k)) same
map_at what a (suc n) (suc i) j l is = map_at what (a + 1) n i j (omega (arith, l)) (omega (arith, is))

pub map_past : {A : Type 0} (what : ℕ → A) (a n i : ℕ) → n ≤ i → slice_get (map what (range_with_len a n)) i ≡ None
map_past what a zero i l = refl
map_past what a (suc n) zero l = absurd (omega (arith, l))
map_past what a (suc n) (suc i) l = map_past what (a + 1) n i (omega (arith, l))

-- ---- two things a number

abbrev pub twos : {A : Type 0} → (ℕ → List A) → ℕ → ℕ → List A
twos two a n = flat_map two (range_with_len a n)

module _ {A : Type 0} (f g : ℕ → A) where
  abbrev pub two : ℕ → List A
  two k = f k ∷ g k ∷ []

  pub first_at : (a n i j p : ℕ) → i < n → a + i ≡ j → p ≡ 2 * i → slice_get (twos two a n) p ≡ Some (f j)
  first_at a zero i j p l is at = absurd (omega (arith, l))
  first_at a (suc n) zero j zero l is at = let same : a ≡ j = omega (arith, is) in ap (λ (k : ℕ). Some (f k)) same
  first_at a (suc n) zero j (suc p) l is at = absurd (omega (arith, at))
  first_at a (suc n) (suc i) j zero l is at = absurd (omega (arith, at))
  first_at a (suc n) (suc i) j (suc zero) l is at = absurd (omega (arith, at))
  first_at a (suc n) (suc i) j (suc (suc p)) l is at = first_at (a + 1) n i j p (omega (arith, l)) (omega (arith, is)) (omega (arith, at))

  pub second_at : (a n i j p : ℕ) → i < n → a + i ≡ j → p ≡ 2 * i + 1 → slice_get (twos two a n) p ≡ Some (g j)
  second_at a zero i j p l is at = absurd (omega (arith, l))
  second_at a (suc n) zero j zero l is at = absurd (omega (arith, at))
  second_at a (suc n) zero j (suc zero) l is at = let same : a ≡ j = omega (arith, is) in ap (λ (k : ℕ). Some (g k)) same
  second_at a (suc n) zero j (suc (suc p)) l is at = absurd (omega (arith, at))
  second_at a (suc n) (suc i) j zero l is at = absurd (omega (arith, at))
  second_at a (suc n) (suc i) j (suc zero) l is at = absurd (omega (arith, at))
  second_at a (suc n) (suc i) j (suc (suc p)) l is at = second_at (a + 1) n i j p (omega (arith, l)) (omega (arith, is)) (omega (arith, at))

  pub twos_many : (a n : ℕ) → length (twos two a n) ≡ 2 * n
  twos_many a zero = omega arith
  twos_many a (suc n) = let rest = twos_many (a + 1) n in omega (arith, rest)

-- ---- one, two or none in front of others

abbrev pub front : {A : Type 0} → Bool → Bool → A → A → List A → List A
front c s x y xs = ((if c then x ∷ [] else []) ++ (if s then y ∷ [] else [])) ++ xs

pub behind : {A : Type 0} (c s : Bool) (x y : A) (xs : List A) (m : ℕ) (z : A) → slice_get xs m ≡ Some z → (k : ℕ) × (slice_get (front c s x y xs) k ≡ Some z)
behind false false x y xs m z at = (m, at)
behind true false x y xs m z at = (suc m, at)
behind false true x y xs m z at = (suc m, at)
behind true true x y xs m z at = (suc (suc m), at)

pub first_in : {A : Type 0} (c s : Bool) (x y : A) (xs : List A) → c ≡ true → (k : ℕ) × (slice_get (front c s x y xs) k ≡ Some x)
first_in false s x y xs is = absurd (cc)
first_in true false x y xs is = (0, refl)
first_in true true x y xs is = (0, refl)

pub second_in : {A : Type 0} (c s : Bool) (x y : A) (xs : List A) → s ≡ true → (k : ℕ) × (slice_get (front c s x y xs) k ≡ Some y)
second_in c false x y xs is = absurd (cc)
second_in false true x y xs is = (0, refl)
second_in true true x y xs is = (1, refl)

-- the first, the second, or one behind; and in a list that is made alike, what stands at the same place
abbrev pub OneOf : {A B : Type 0} → Bool → Bool → A → A → List A → B → B → List B → ℕ → A → Type 0
OneOf {A} {B} c s x y xs u v us k z =
    ((c ≡ true) × (z ≡ x) × (slice_get (front c s u v us) k ≡ Some u))
    ⊎ (((s ≡ true) × (z ≡ y) × (slice_get (front c s u v us) k ≡ Some v))
    ⊎ ((m : ℕ) × (slice_get xs m ≡ Some z) × ((t : B) → slice_get us m ≡ Some t → slice_get (front c s u v us) k ≡ Some t)))

one : {A : Type 0} (x z : A) → Some x ≡ Some z → z ≡ x
one x z is = sym (same_Some x z is)

pub one_of : {A B : Type 0} (c s : Bool) (x y : A) (xs : List A) (u v : B) (us : List B) (k : ℕ) (z : A) → slice_get (front c s x y xs) k ≡ Some z
    → OneOf c s x y xs u v us k z
one_of false false x y xs u v us k z at = inr (inr (k, at, λ t h. h))
one_of true false x y xs u v us zero z at = inl (refl, one x z at, refl)
one_of true false x y xs u v us (suc k) z at = inr (inr (k, at, λ t h. h))
one_of false true x y xs u v us zero z at = inr (inl (refl, one y z at, refl))
one_of false true x y xs u v us (suc k) z at = inr (inr (k, at, λ t h. h))
one_of true true x y xs u v us zero z at = inl (refl, one x z at, refl)
one_of true true x y xs u v us (suc zero) z at = inr (inl (refl, one y z at, refl))
one_of true true x y xs u v us (suc (suc k)) z at = inr (inr (k, at, λ t h. h))
