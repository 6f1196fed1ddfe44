-- Of numbers below n, each of which comes but once, there are at most n.
use Rattle.std.proofs.Common.{◌≡◌, ◌≢◌, inl, inr, refl, ap, ◌∙◌, ℕ, zero, suc, ◌+◌, ◌<◌, ◌≤◌, ◌==◌, if◌then◌else◌, List, [], ◌∷◌, length, arith}
use Rattle.std.proofs.lemmas.Bool.{eq-eqb, ne_eqb, cases_eq, cond-true, cond-false}

-- how often n comes in a list
abbrev pub times : ℕ → List ℕ → ℕ
times n [] = 0
times n (x ∷ xs) = if x == n then suc (times n xs) else times n xs

-- how often the numbers below n come
abbrev total : ℕ → List ℕ → ℕ
total zero xs = 0
total (suc n) xs = times n xs + total n xs

pub times_same : (n x : ℕ) (xs : List ℕ) → x ≡ n → times n (x ∷ xs) ≡ suc (times n xs)
times_same n x xs same = cond-true _ _ _ (eq-eqb x n same)

pub times_other : (n x : ℕ) (xs : List ℕ) → x ≢ n → times n (x ∷ xs) ≡ times n xs
times_other n x xs other = cond-false _ _ _ (ne_eqb x n other)

total_none : (n : ℕ) → total n [] ≡ 0
total_none zero = refl
total_none (suc n) = omega (arith, total_none n)

total_above : (n x : ℕ) (xs : List ℕ) → n ≤ x → total n (x ∷ xs) ≡ total n xs
total_above zero x xs above = refl
total_above (suc n) x xs above =
    let none : times n (x ∷ xs) ≡ times n xs = times_other n x xs (λ same. omega (arith, above, same)) in
    let rest : total n (x ∷ xs) ≡ total n xs = total_above n x xs (omega (arith, above)) in
    omega (arith, none, rest)

total_below : (n x : ℕ) (xs : List ℕ) → x < n → total n (x ∷ xs) ≡ suc (total n xs)
total_below zero x xs below = absurd (omega (arith, below))
total_below (suc n) x xs below = elim (cases_eq x n) [
  | inl same ↦
      let above : n ≤ x = omega (arith, same) in
      let one : times n (x ∷ xs) ≡ suc (times n xs) = times_same n x xs same in
      let rest : total n (x ∷ xs) ≡ total n xs = total_above n x xs above in
      omega (arith, one, rest)
  | inr other ↦
      let less : x < n = omega (arith, below, other) in
      let none : times n (x ∷ xs) ≡ times n xs = times_other n x xs other in
      let rest : total n (x ∷ xs) ≡ suc (total n xs) = total_below n x xs less in
      omega (arith, none, rest)
]

-- all are below n
abbrev pub AllBelow : ℕ → List ℕ → Type 0
AllBelow n [] = Unit {0}
AllBelow n (x ∷ xs) = (x < n) × AllBelow n xs

total_all : (n : ℕ) (xs : List ℕ) → AllBelow n xs → total n xs ≡ length xs
total_all n [] all = total_none n
total_all n (x ∷ xs) all = total_below n x xs all.0 ∙ ap suc (total_all n xs all.1)

total_few : (n : ℕ) (xs : List ℕ) → ((k : ℕ) → times k xs ≤ 1) → total n xs ≤ n
total_few zero xs once = omega arith
total_few (suc n) xs once = omega (arith, once n, total_few n xs once)

pub few : (n : ℕ) (xs : List ℕ) → AllBelow n xs → ((k : ℕ) → times k xs ≤ 1) → length xs ≤ n
few n xs all once = omega (arith, total_all n xs all, total_few n xs once)
