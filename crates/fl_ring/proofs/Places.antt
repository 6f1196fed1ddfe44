-- Slots and epochs: which differ, and which are the same.
use Rattle.std.proofs.Common.{ℕ, ◌≡◌, ◌≢◌, ◌<◌, ◌≤◌, ◌+◌, ◌*◌, ◌/◌, ◌%◌, ◌⊎◌, inl, inr, ap, ◌∙◌, sym, arith}
use Rattle.std.proofs.Math.Nat.{add-mod_right}
use Rattle.std.proofs.lemmas.Nat.{div-add-mod', mul-le, mod_below, div-mul-add}
use Rattle.std.proofs.lemmas.Bool.{cases_lt}
use Rattle.fl_link.specs.Cursor.{epoch_at}
use Rattle.fl_ring.specs.Way.{slot}

-- with rounds q and r, and one place
rounds_meet : (n i j q r p : ℕ) → q * n + p ≡ i → r * n + p ≡ j → i ≤ j → j < i + n → (q < r) ⊎ (r ≤ q) → (r < q) ⊎ (q ≤ r) → i ≡ j
rounds_meet n i j q r p e d le lt (inl up) down = absurd (omega (arith, mul-le (q + 1) n r n (omega arith) (omega arith)))
rounds_meet n i j q r p e d le lt (inr up) (inl down) = omega (arith, mul-le (r + 1) n q n (omega arith) (omega arith))
rounds_meet n i j q r p e d le lt (inr up) (inr down) =
    let same : q ≡ r = omega arith in
    sym e ∙ ap (λ (x : ℕ). x * n + p) same ∙ d

-- two indexes less than a round apart with one place are one index
pub one_round : (n i j : ℕ) → i ≤ j → j < i + n → i % n ≡ j % n → i ≡ j
one_round n i j le lt e =
    let d : j / n * n + i % n ≡ j = ap (λ (x : ℕ). j / n * n + x) e ∙ div-add-mod' j n in
    rounds_meet n i j (i / n) (j / n) (i % n) (div-add-mod' i n) d le lt (cases_lt (i / n) (j / n)) (cases_lt (j / n) (i / n))

places_apart : (x y : ℕ) → x ≢ y → (x < y) ⊎ (y ≤ x) → (x + 1 ≤ y) ⊎ (y + 1 ≤ x)
places_apart x y ne (inl lt) = inl (omega arith)
places_apart x y ne (inr le) = inr (omega arith)

blocks_apart : (b x y : ℕ) → (x + 1 ≤ y) ⊎ (y + 1 ≤ x) → (b + 8 * x + 8 ≤ b + 8 * y) ⊎ (b + 8 * y + 8 ≤ b + 8 * x)
blocks_apart b x y (inl h) = inl (omega arith)
blocks_apart b x y (inr h) = inr (omega arith)

-- the slots of two different indexes less than a round apart lie apart
pub slots_apart : (b n i j : ℕ) → i < j → j < i + n → (slot b n i + 8 ≤ slot b n j) ⊎ (slot b n j + 8 ≤ slot b n i)
slots_apart b n i j lt near =
    let ne : i % n ≢ j % n = λ e. let same : i ≡ j = one_round n i j (omega arith) near e in omega arith in
    blocks_apart b (i % n) (j % n) (places_apart (i % n) (j % n) ne (cases_lt (i % n) (j % n)))

-- a slot lies within its way
pub slot_within : (b n i : ℕ) → 0 < n → slot b n i + 8 ≤ b + 8 * n
slot_within b n i p = let place : ℕ = i % n in let below : place < n = mod_below i n p in omega arith

-- one round on the slot is the same, and the epoch the other
pub same_slot : (b n i : ℕ) → slot b n (i + n) ≡ slot b n i
same_slot b n i = ap (λ (x : ℕ). b + 8 * x) (add-mod_right i n)

round_on : (n i : ℕ) → 0 < n → (i + n) / n ≡ i / n + 1
round_on n i p =
    let e : i + n ≡ (i / n + 1) * n + i % n = omega (arith, div-add-mod' i n) in
    ap (λ (x : ℕ). x / n) e ∙ div-mul-add (i / n + 1) n (i % n) (mod_below i n p)

pub other_epoch : (n i : ℕ) → 0 < n → epoch_at n (i + n) ≢ epoch_at n i
other_epoch n i p e =
    let q : ℕ = i / n in
    let h : (q + 1 + 1) % 2 ≡ (q + 1) % 2 = sym (ap (λ (x : ℕ). (x + 1) % 2) (round_on n i p)) ∙ e in
    omega arith

pub epoch_bit : (n i : ℕ) → epoch_at n i < 2
epoch_bit n i = mod_below (i / n + 1) 2 (omega arith)
