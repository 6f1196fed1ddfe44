-- One step of an index that goes round a ring.
use Rattle.std.proofs.Common.{ℕ, ◌≡◌, ◌<◌, ◌+◌, ◌*◌, ◌/◌, ◌%◌, ◌-◌, ap, ◌∙◌, arith}
use Rattle.std.proofs.lemmas.Nat.{div-mul-add, mod-mul-add, div-add-mod'}
use Rattle.fl_link.specs.Cursor.{epoch_at}

-- within the round
pub place_next : (n i : ℕ) → i % n + 1 < n → (i + 1) % n ≡ i % n + 1
place_next n i h =
    let e : i + 1 ≡ i / n * n + (i % n + 1) = omega (arith, div-add-mod' i n) in
    ap (λ (x : ℕ). x % n) e ∙ mod-mul-add (i / n) n (i % n + 1) h

pub round_same : (n i : ℕ) → i % n + 1 < n → (i + 1) / n ≡ i / n
round_same n i h =
    let e : i + 1 ≡ i / n * n + (i % n + 1) = omega (arith, div-add-mod' i n) in
    ap (λ (x : ℕ). x / n) e ∙ div-mul-add (i / n) n (i % n + 1) h

-- on to the next round
pub place_wraps : (n i : ℕ) → 0 < n → i % n + 1 ≡ n → (i + 1) % n ≡ 0
place_wraps n i p h =
    let e : i + 1 ≡ (i / n + 1) * n + 0 = omega (arith, div-add-mod' i n) in
    ap (λ (x : ℕ). x % n) e ∙ mod-mul-add (i / n + 1) n 0 p

pub round_next : (n i : ℕ) → 0 < n → i % n + 1 ≡ n → (i + 1) / n ≡ i / n + 1
round_next n i p h =
    let e : i + 1 ≡ (i / n + 1) * n + 0 = omega (arith, div-add-mod' i n) in
    ap (λ (x : ℕ). x / n) e ∙ div-mul-add (i / n + 1) n 0 p

pub epoch_same : (n i : ℕ) → i % n + 1 < n → epoch_at n (i + 1) ≡ epoch_at n i
epoch_same n i h = ap (λ (x : ℕ). (x + 1) % 2) (round_same n i h)

pub epoch_turns : (n i : ℕ) → 0 < n → i % n + 1 ≡ n → epoch_at n (i + 1) ≡ 1 - epoch_at n i
epoch_turns n i p h =
    let next : epoch_at n (i + 1) ≡ (i / n + 1 + 1) % 2 = ap (λ (x : ℕ). (x + 1) % 2) (round_next n i p h) in
    let q : ℕ = i / n in
    let other : (q + 1 + 1) % 2 ≡ 1 - (q + 1) % 2 = omega arith in
    next ∙ other
