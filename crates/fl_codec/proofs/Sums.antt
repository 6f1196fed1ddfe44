-- Numbers by their bytes, the lowest first.
use Rattle.std.proofs.Common.{◌≡◌, ℕ, zero, suc, ◌+◌, ◌*◌, ◌^◌, ◌<◌, ◌≤◌, inl, inr, List, refl, sym, ◌∙◌, ap, subst, arith, add-zero}
use Rattle.std.specs.Prelude.{slice_index}
use Rattle.std.specs.Int.{byte_at, from_le_bytes, w64}
use Rattle.std.proofs.Math.Nat.{mul_left_comm, mul-add, mul-le-mul_right, pow-suc}
use Rattle.std.proofs.lemmas.Nat.{pow-add, from_le_bytes-to_le_bytes_8}
use Rattle.fl_interface.specs.Sizes.{IsAlign}

-- the number that so many bytes are
abbrev pub low : ℕ → (ℕ → ℕ) → ℕ
low zero f = 0
low (suc n) f = low n f + f n * 256 ^ n

pub low_ext : (n : ℕ) (f g : ℕ → ℕ) → ((j : ℕ) → j < n → f j ≡ g j) → low n f ≡ low n g
low_ext zero f g h = refl
low_ext (suc n) f g h =
    let e = low_ext n f g (λ j l. h j (omega (arith, l))) in
    ap (λ (m : ℕ). m + f n * 256 ^ n) e ∙ ap (λ (m : ℕ). low n g + m * 256 ^ n) (h n (omega arith))

pub low_none : (n : ℕ) (f : ℕ → ℕ) → ((j : ℕ) → j < n → f j ≡ 0) → low n f ≡ 0
low_none zero f h = refl
low_none (suc n) f h =
    let e = low_none n f (λ j l. h j (omega (arith, l))) in
    ap (λ (m : ℕ). m + f n * 256 ^ n) e ∙ ap (λ (m : ℕ). 0 + m * 256 ^ n) (h n (omega arith)) ∙ omega arith

put_above : (a p b x q : ℕ) → (a + p * b) + x * (p * q) ≡ a + p * (b + x * q)
put_above a p b x q =
    let e = mul-add p b (x * q) in
    let f = mul_left_comm x p q in
    omega (arith, e, f)

-- the bytes from one on stand above those before it
pub low_split : (s n : ℕ) (f : ℕ → ℕ) → low (s + n) f ≡ low s f + 256 ^ s * low n (λ j. f (s + j))
low_split s zero f = ap (λ (m : ℕ). low m f) (add-zero s) ∙ omega arith
low_split s (suc n) f =
    let next : s + suc n ≡ suc (s + n) = omega arith in
    ap (λ (m : ℕ). low m f) next
    ∙ ap (λ (m : ℕ). m + f (s + n) * 256 ^ (s + n)) (low_split s n f)
    ∙ ap (λ (m : ℕ). (low s f + 256 ^ s * low n (λ j. f (s + j))) + f (s + n) * m) (pow-add 256 s n)
    ∙ put_above (low s f) (256 ^ s) (low n (λ j. f (s + j))) (f (s + n)) (256 ^ n)

pub low_below : (n : ℕ) (f : ℕ → ℕ) → ((j : ℕ) → j < n → f j < 256) → low n f < 256 ^ n
low_below zero f h = omega arith
low_below (suc n) f h =
    let e = low_below n f (λ j l. h j (omega (arith, l))) in
    let here : f n ≤ 255 = omega (arith, h n (omega arith)) in
    let most : f n * 256 ^ n ≤ 255 * 256 ^ n = mul-le-mul_right (256 ^ n) here in
    omega (arith, e, most, pow-suc 256 n)

-- the bytes of a number
pub low_of : (w v : ℕ) → IsAlign w → v < 2 ^ (8 * w) → low w (λ j. byte_at j v) ≡ v
low_of w v (inl e) small = subst (λ (n : ℕ). v < 2 ^ (8 * n) → low n (λ j. byte_at j v) ≡ v) (sym e) (λ small. omega (arith, small)) small
low_of w v (inr (inl e)) small = subst (λ (n : ℕ). v < 2 ^ (8 * n) → low n (λ j. byte_at j v) ≡ v) (sym e) (λ small. omega (arith, small)) small
low_of w v (inr (inr (inl e))) small = subst (λ (n : ℕ). v < 2 ^ (8 * n) → low n (λ j. byte_at j v) ≡ v) (sym e) (λ small. omega (arith, small)) small
low_of w v (inr (inr (inr e))) small =
    subst (λ (n : ℕ). v < 2 ^ (8 * n) → low n (λ j. byte_at j v) ≡ v) (sym e) (λ small. let e = from_le_bytes-to_le_bytes_8 v small in omega (arith, e)) small

-- eight bytes as a word
pub word_is : (bytes : List ℕ) → from_le_bytes w64 bytes ≡ low 8 (slice_index bytes)
word_is bytes = omega arith
