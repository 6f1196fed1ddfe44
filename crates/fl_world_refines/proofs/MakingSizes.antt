-- The sizes that a ring may have: the powers of two from 4 to 1,024.
use Rattle.std.proofs.Common.{◌≡◌, refl, sym, ◌∙◌, ap, ℕ, zero, suc, ◌+◌, ◌<◌, ◌≤◌, ◌==◌, ◌&&◌, not, nat_lt, nat_le, Bool, true, false, arith}
use Rattle.std.specs.Int.{is_power_of_two}
use Rattle.std.specs.List.{list_all, range_with_len}
use Rattle.std.proofs.lemmas.Bool.Decides.{nat_tests}
use Rattle.fl_model.specs.Making.{is_ring_size}
use Rattle.fl_ring.specs.Duo.{MayHaveSlots}
use Rattle.fl_world_refines.proofs.Tests.{lt_true, le_true, true_lt, true_le}

abbrev may_have : ℕ → Bool
may_have n = nat_lt 3 n && nat_le n 1024 && is_power_of_two n

abbrev same : Bool → Bool → Bool
same true b = b
same false b = not b

same_is : (a b : Bool) → same a b ≡ true → a ≡ b
same_is true true h = refl
same_is false false h = refl
same_is true false h = absurd (cc)
same_is false true h = absurd (cc)

abbrev agrees : ℕ → Bool
agrees n = same (is_ring_size n) (may_have n)

both : (a b : Bool) → (a && b) ≡ true → (a ≡ true) × (b ≡ true)
both true b h = (refl, h)
both false b h = absurd (cc)

by_either : (b : Bool) (T : Type 0) → (b ≡ true → T) → (b ≡ false → T) → T
by_either true T f g = f refl
by_either false T f g = g refl

among : (p : ℕ → Bool) (a m n : ℕ) → list_all p (range_with_len a m) ≡ true → a ≤ n → n < a + m → p n ≡ true
among p a zero n h l u = absurd (omega arith)
among p a (suc m) n h l u =
    let (here, later) = both (p a) (list_all p (range_with_len (a + 1) m)) h in
    by_either (n == a) (p n ≡ true) (λ q. let e : n ≡ a = grind (arith, nat_tests, q) in ap p e ∙ here)
    (λ q. among p (a + 1) m n later (grind (arith, nat_tests, q, l)) (omega arith))

all_small : list_all agrees (range_with_len 0 1025) ≡ true
unfolding lib.Count.ones
all_small = refl

large_ring : (n : ℕ) → 1024 < n → is_ring_size n ≡ false
large_ring n h = grind (arith, nat_tests, h)

large_may : (n : ℕ) → 1024 < n → may_have n ≡ false
large_may n h = by (nat_lt 3 n) (nat_le n 1024) (grind (arith, nat_tests, h))
  where
    by : (a b : Bool) → b ≡ false → (a && b && is_power_of_two n) ≡ false
    by true false q = refl
    by false b q = refl
    by true true q = absurd (cc)

sizes_agree : (n : ℕ) → is_ring_size n ≡ may_have n
sizes_agree n = by (nat_lt n 1025) refl
  where
    by : (b : Bool) → nat_lt n 1025 ≡ b → is_ring_size n ≡ may_have n
    by true q = same_is (is_ring_size n) (may_have n) (among agrees 0 1025 n all_small (omega arith) (grind (arith, nat_tests, q)))
    by false q = let h : 1024 < n = grind (arith, nat_tests, q) in large_ring n h ∙ sym (large_may n h)

pub is_size : (n : ℕ) → MayHaveSlots n → is_ring_size n ≡ true
is_size n h =
    sizes_agree n ∙ ap (λ b. b && nat_le n 1024 && is_power_of_two n) (lt_true 3 n h.0) ∙ ap (λ b. b && is_power_of_two n) (le_true n 1024 h.1) ∙ h.2

pub may_be_size : (n : ℕ) → is_ring_size n ≡ true → MayHaveSlots n
may_be_size n h =
    let (between, c) = both (nat_lt 3 n && nat_le n 1024) (is_power_of_two n) (sym (sizes_agree n) ∙ h) in
    let (a, b) = both (nat_lt 3 n) (nat_le n 1024) between in
    (true_lt 3 n a, true_le n 1024 b, c)
