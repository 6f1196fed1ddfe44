-- A number at a multiple of its width stands in one word.
use Rattle.std.proofs.Common.{◌≡◌, ℕ, zero, suc, ◌+◌, ◌-◌, ◌*◌, ◌/◌, ◌%◌, ◌^◌, ◌<◌, ◌≤◌, List, sym, ◌∙◌, ap, arith}
use Rattle.std.specs.Prelude.{slice_get, slice_index}
use Rattle.std.specs.Int.{byte_at}
use Rattle.std.proofs.lemmas.Nat.{from_le_bytes-to_le_bytes_8, shr-shr, shr_le}
use Rattle.fl_base.specs.declared.fragment.Frag.{Frag}
use Rattle.fl_wire.specs.Standing.{words_in, word_in, byte_in}
use Rattle.fl_wire.proofs.Numbers.{from_low}

-- a byte of a word, by its place in the word
byte_there : (frags : List Frag) (place j : ℕ) → place % 8 + j < 8 → byte_in frags (place + j) ≡ byte_at (place % 8 + j) (word_in frags (place / 8))
byte_there frags place j h =
    let within : (place + j) % 8 ≡ place % 8 + j = omega (arith, h) in
    let frag : (place + j) / 56 ≡ place / 8 / 7 = omega (arith, h) in
    let word : (place + j) / 8 % 7 ≡ place / 8 % 7 = omega (arith, h) in
    ap (λ (n : ℕ). byte_at n (slice_index (words_in (slice_get frags ((place + j) / 56))) ((place + j) / 8 % 7))) within
    ∙ ap (λ (n : ℕ). byte_at (place % 8 + j) (slice_index (words_in (slice_get frags n)) ((place + j) / 8 % 7))) frag
    ∙ ap (λ (n : ℕ). byte_at (place % 8 + j) (slice_index (words_in (slice_get frags (place / 8 / 7))) n)) word

one_byte : (w s : ℕ) → s < 8 → w / 2 ^ (8 * s) % 256 ≡ byte_at (s + 0) w
one_byte w zero h = omega arith
one_byte w (suc zero) h = omega arith
one_byte w (suc (suc zero)) h = omega arith
one_byte w (suc (suc (suc zero))) h = omega arith
one_byte w (suc (suc (suc (suc zero)))) h = omega arith
one_byte w (suc (suc (suc (suc (suc zero))))) h = omega arith
one_byte w (suc (suc (suc (suc (suc (suc zero)))))) h = omega arith
one_byte w (suc (suc (suc (suc (suc (suc (suc zero))))))) h = omega arith
one_byte w (suc (suc (suc (suc (suc (suc (suc (suc s)))))))) h = absurd (omega (arith, h))

two_bytes : (w s : ℕ) → s < 8 → s % 2 ≡ 0 → w / 2 ^ (8 * s) % 65536 ≡ byte_at (s + 0) w + byte_at (s + 1) w * 256
two_bytes w zero h e = omega arith
two_bytes w (suc zero) h e = absurd (omega (arith, e))
two_bytes w (suc (suc zero)) h e = omega arith
two_bytes w (suc (suc (suc zero))) h e = absurd (omega (arith, e))
two_bytes w (suc (suc (suc (suc zero)))) h e = omega arith
two_bytes w (suc (suc (suc (suc (suc zero))))) h e = absurd (omega (arith, e))
two_bytes w (suc (suc (suc (suc (suc (suc zero)))))) h e = omega arith
two_bytes w (suc (suc (suc (suc (suc (suc (suc s))))))) h e = absurd (omega (arith, h, e))

four_bytes : (w s : ℕ) → s < 8 → s % 4 ≡ 0
    → w / 2 ^ (8 * s) % 4294967296 ≡ byte_at (s + 0) w + byte_at (s + 1) w * 256 + byte_at (s + 2) w * 65536 + byte_at (s + 3) w * 16777216
four_bytes w zero h e = omega arith
four_bytes w (suc zero) h e = absurd (omega (arith, e))
four_bytes w (suc (suc zero)) h e = absurd (omega (arith, e))
four_bytes w (suc (suc (suc zero))) h e = absurd (omega (arith, e))
four_bytes w (suc (suc (suc (suc zero)))) h e = omega arith
four_bytes w (suc (suc (suc (suc (suc s))))) h e = absurd (omega (arith, h, e))

pub one_in : (frags : List Frag) (place : ℕ) → word_in frags (place / 8) / 2 ^ (8 * (place % 8)) % 256 ≡ from_low 1 (λ j. byte_in frags (place + j))
one_in frags place =
    let s = place % 8 in
    let low : s < 8 = omega arith in
    let e = one_byte (word_in frags (place / 8)) s low in
    let a = byte_there frags place 0 (omega (arith, low)) in
    omega (arith, e, a)

pub two_in : (frags : List Frag) (place : ℕ) → place % 2 ≡ 0 → word_in frags (place / 8) / 2 ^ (8 * (place % 8)) % 65536 ≡ from_low 2 (λ j. byte_in frags (place + j))
two_in frags place h =
    let s = place % 8 in
    let low : s < 8 = omega arith in
    let even : s % 2 ≡ 0 = omega (arith, h) in
    let e = two_bytes (word_in frags (place / 8)) s low even in
    let a = byte_there frags place 0 (omega (arith, low)) in
    let b = byte_there frags place 1 (omega (arith, low, even)) in
    omega (arith, e, a, b)

pub four_in : (frags : List Frag) (place : ℕ) → place % 4 ≡ 0 → word_in frags (place / 8) / 2 ^ (8 * (place % 8)) % 4294967296 ≡ from_low 4 (λ j. byte_in frags (place + j))
four_in frags place h =
    let s = place % 8 in
    let low : s < 8 = omega arith in
    let even : s % 4 ≡ 0 = omega (arith, h) in
    let e = four_bytes (word_in frags (place / 8)) s low even in
    let a = byte_there frags place 0 (omega (arith, low)) in
    let b = byte_there frags place 1 (omega (arith, low, even)) in
    let c = byte_there frags place 2 (omega (arith, low, even)) in
    let d = byte_there frags place 3 (omega (arith, low, even)) in
    omega (arith, e, a, b, c, d)

pub eight_in : (frags : List Frag) (place : ℕ) → place % 8 ≡ 0 → word_in frags (place / 8) < 2 ^ 64 → word_in frags (place / 8) ≡ from_low 8 (λ j. byte_in frags (place + j))
eight_in frags place h small =
    let w = word_in frags (place / 8) in
    let at = λ (j : ℕ) (l : j < 8). byte_there frags place j (omega (arith, h, l)) ∙ ap (λ (n : ℕ). byte_at (n + j) w) h in
    let e = from_le_bytes-to_le_bytes_8 w small in
    omega (arith, e, at 0 (omega arith), at 1 (omega arith), at 2 (omega arith), at 3 (omega arith), at 4 (omega arith), at 5 (omega arith), at 6 (omega arith), at 7 (omega arith))

-- a byte, by the word in which it stands
pub same_byte : (frags : List Frag) (p : ℕ) → byte_at (p % 8) (word_in frags (p / 8)) ≡ byte_in frags p
same_byte frags p =
    let e : p / 8 / 7 ≡ p / 56 = omega arith in
    ap (λ (n : ℕ). byte_at (p % 8) (slice_index (words_in (slice_get frags n)) (p / 8 % 7))) e

-- a word whose bytes from one on are 0
zero_byte : (w s j : ℕ) → w / 2 ^ (8 * s) ≡ 0 → s ≤ j → j < 8 → byte_at j w ≡ 0
zero_byte w s j none from low =
    let d = j - s in
    let there : 8 * j ≡ 8 * s + 8 * d = omega (arith, from) in
    let nothing : 0 / 2 ^ (8 * d) ≡ 0 = omega (arith, shr_le 0 (8 * d)) in
    let whole : w / 2 ^ (8 * j) ≡ 0 = ap (λ (n : ℕ). w / 2 ^ n) there ∙ sym (shr-shr w (8 * s) (8 * d)) ∙ ap (λ (n : ℕ). n / 2 ^ (8 * d)) none ∙ nothing in
    let same : j ≡ j + 0 = omega arith in
    ap (λ (n : ℕ). byte_at n w) same ∙ sym (one_byte w j low) ∙ ap (λ (n : ℕ). n % 256) whole

pub zeros_there : (frags : List Frag) (p q w : ℕ) → w ≡ word_in frags (p / 8) → w / 2 ^ (8 * (p % 8)) ≡ 0 → p ≤ q → q < p + (8 - p % 8) → byte_in frags q ≡ 0
zeros_there frags p q w is none from below =
    let same : q / 8 ≡ p / 8 = omega (arith, from, below) in
    let later : p % 8 ≤ q % 8 = omega (arith, from, below) in
    let low : q % 8 < 8 = omega arith in
    sym (same_byte frags q) ∙ ap (λ (n : ℕ). byte_at (q % 8) (word_in frags n)) same ∙ ap (byte_at (q % 8)) (sym is) ∙ zero_byte w (p % 8) (q % 8) none later low
