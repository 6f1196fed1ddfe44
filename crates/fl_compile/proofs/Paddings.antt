-- Zeros up to multiples of alignments.
use Rattle.std.proofs.Common.{◌≡◌, ℕ, ◌+◌, ◌%◌, sym, subst, arith}
use Rattle.fl_interface.specs.Sizes.{round_up}
use Rattle.fl_stub.specs.Meaning.{gap_to_8}
use Rattle.fl_compile.specs.Compiled.{padding}
use Rattle.fl_interface.specs.Sizes.{IsAlign}
use Rattle.fl_interface.proofs.Aligned.{by_align, IsMultiple, rounded}

pub padded : (a n : ℕ) → n + padding n a ≡ round_up n a
padded a n = omega arith

pub padded_multiple : (a n : ℕ) → IsAlign a → IsMultiple a (n + padding n a)
padded_multiple a n h = subst (IsMultiple a) (sym (padded a n)) (rounded a n h)

pub no_padding : (a n : ℕ) → IsAlign a → IsMultiple a n → padding n a ≡ 0
no_padding a n h m = by_align (λ a. IsMultiple a n → padding n a ≡ 0) (λ m. omega (arith, m)) (λ m. omega (arith, m)) (λ m. omega (arith, m)) (λ m. omega (arith, m)) a h m

-- after a multiple of an alignment as after its start
pub padding_after : (a base n : ℕ) → IsAlign a → IsMultiple a base → padding (base + n) a ≡ padding n a
padding_after a base n h m =
    by_align (λ a. IsMultiple a base → padding (base + n) a ≡ padding n a)
    (λ m. omega (arith, m)) (λ m. omega (arith, m)) (λ m. omega (arith, m)) (λ m. omega (arith, m)) a h m

-- places that are as far from a multiple of 8
pub padding_same : (a p q : ℕ) → IsAlign a → p % 8 ≡ q % 8 → padding p a ≡ padding q a
padding_same a p q h e =
    by_align (λ a. padding p a ≡ padding q a) (omega (arith, e)) (omega (arith, e)) (omega (arith, e)) (omega (arith, e)) a h

pub gap_is_padding : (n : ℕ) → gap_to_8 n ≡ padding n 8
gap_is_padding n = omega arith

-- a multiple of 8 is one of each alignment
pub multiple_of_8 : (a n : ℕ) → IsAlign a → IsMultiple 8 n → IsMultiple a n
multiple_of_8 a n h m = by_align (λ a. IsMultiple a n) (omega (arith, m)) (omega (arith, m)) (omega (arith, m)) m a h
