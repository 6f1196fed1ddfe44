-- A list in which eight places, one after another, are others: as a number's bytes are put into a buffer.
use Rattle.std.proofs.Common.{◌≡◌, ℕ, zero, suc, ◌+◌, ◌<◌, ◌≤◌, List, [], ◌∷◌, ◌++◌, length, take, drop, get_or, slice_set, refl, sym, ◌∙◌, ap, subst, arith}
use Rattle.std.specs.Int.{from_le_bytes, w64}
use Rattle.std.proofs.lemmas.Nat.{le_bytes_8}
use Rattle.fl_stub.specs.Meaning.{number_bytes}
use native.Mathlib.Numerals.{unary_clauses}

-- a list with eight others from a place on
pub set_eight : (at : ℕ) (xs : List ℕ) (a b c d e f g h : ℕ) → at + 8 ≤ length xs
    → slice_set (slice_set (slice_set (slice_set (slice_set (slice_set (slice_set (slice_set xs at a) (at + 1) b) (at + 2) c) (at + 3) d) (at + 4) e) (at + 5) f) (at + 6) g) (at + 7) h
    ≡ take at xs ++ (a ∷ b ∷ c ∷ d ∷ e ∷ f ∷ g ∷ h ∷ drop (at + 8) xs)
set_eight zero [] a b c d e f g h room = absurd (omega (arith, room))
set_eight zero (x0 ∷ []) a b c d e f g h room = absurd (omega (arith, room))
set_eight zero (x0 ∷ x1 ∷ []) a b c d e f g h room = absurd (omega (arith, room))
set_eight zero (x0 ∷ x1 ∷ x2 ∷ []) a b c d e f g h room = absurd (omega (arith, room))
set_eight zero (x0 ∷ x1 ∷ x2 ∷ x3 ∷ []) a b c d e f g h room = absurd (omega (arith, room))
set_eight zero (x0 ∷ x1 ∷ x2 ∷ x3 ∷ x4 ∷ []) a b c d e f g h room = absurd (omega (arith, room))
set_eight zero (x0 ∷ x1 ∷ x2 ∷ x3 ∷ x4 ∷ x5 ∷ []) a b c d e f g h room = absurd (omega (arith, room))
set_eight zero (x0 ∷ x1 ∷ x2 ∷ x3 ∷ x4 ∷ x5 ∷ x6 ∷ []) a b c d e f g h room = absurd (omega (arith, room))
set_eight zero (x0 ∷ x1 ∷ x2 ∷ x3 ∷ x4 ∷ x5 ∷ x6 ∷ x7 ∷ xs) a b c d e f g h room = refl
set_eight (suc at) [] a b c d e f g h room = absurd (omega (arith, room))
set_eight (suc at) (x ∷ xs) a b c d e f g h room =
    let rest = set_eight at xs a b c d e f g h (omega (arith, room)) in
    simp unary_clauses (ap (λ (ys : List ℕ). x ∷ ys) (simp unary_clauses at rest))

-- the eight numbers from a place on, one by one
take_eight : (at : ℕ) (xs : List ℕ) → at + 8 ≤ length xs
    → take 8 (drop at xs) ≡ get_or xs at 0 ∷ get_or xs (at + 1) 0 ∷ get_or xs (at + 2) 0 ∷ get_or xs (at + 3) 0
    ∷ get_or xs (at + 4) 0 ∷ get_or xs (at + 5) 0 ∷ get_or xs (at + 6) 0 ∷ get_or xs (at + 7) 0 ∷ []
take_eight zero [] room = absurd (omega (arith, room))
take_eight zero (x0 ∷ []) room = absurd (omega (arith, room))
take_eight zero (x0 ∷ x1 ∷ []) room = absurd (omega (arith, room))
take_eight zero (x0 ∷ x1 ∷ x2 ∷ []) room = absurd (omega (arith, room))
take_eight zero (x0 ∷ x1 ∷ x2 ∷ x3 ∷ []) room = absurd (omega (arith, room))
take_eight zero (x0 ∷ x1 ∷ x2 ∷ x3 ∷ x4 ∷ []) room = absurd (omega (arith, room))
take_eight zero (x0 ∷ x1 ∷ x2 ∷ x3 ∷ x4 ∷ x5 ∷ []) room = absurd (omega (arith, room))
take_eight zero (x0 ∷ x1 ∷ x2 ∷ x3 ∷ x4 ∷ x5 ∷ x6 ∷ []) room = absurd (omega (arith, room))
take_eight zero (x0 ∷ x1 ∷ x2 ∷ x3 ∷ x4 ∷ x5 ∷ x6 ∷ x7 ∷ xs) room = refl
take_eight (suc at) [] room = absurd (omega (arith, room))
take_eight (suc at) (x ∷ xs) room =
    let rest = take_eight at xs (omega (arith, room)) in
    simp unary_clauses (simp unary_clauses at rest)

small_taken : (n : ℕ) (xs : List ℕ) → ((k : ℕ) → get_or xs k 0 < 256) → (i : ℕ) → get_or (take n xs) i 0 < 256
small_taken zero xs small i = omega arith
small_taken (suc n) [] small i = omega arith
small_taken (suc n) (x ∷ xs) small zero = small 0
small_taken (suc n) (x ∷ xs) small (suc i) = small_taken n xs (λ k. small (suc k)) i

small_dropped : (n : ℕ) (xs : List ℕ) → ((k : ℕ) → get_or xs k 0 < 256) → (i : ℕ) → get_or (drop n xs) i 0 < 256
small_dropped zero xs small i = small i
small_dropped (suc n) [] small i = omega arith
small_dropped (suc n) (x ∷ xs) small i = small_dropped n xs (λ k. small (suc k)) i

-- the bytes of the number that eight bytes are
pub bytes_again : (at : ℕ) (xs : List ℕ) (number : ℕ) → at + 8 ≤ length xs → ((k : ℕ) → get_or xs k 0 < 256)
    → number ≡ from_le_bytes w64 (get_or xs at 0 ∷ get_or xs (at + 1) 0 ∷ get_or xs (at + 2) 0 ∷ get_or xs (at + 3) 0
    ∷ get_or xs (at + 4) 0 ∷ get_or xs (at + 5) 0 ∷ get_or xs (at + 6) 0 ∷ get_or xs (at + 7) 0 ∷ [])
    → number_bytes 8 number ≡ take 8 (drop at xs)
bytes_again at xs number room small is =
    let eight = take_eight at xs room in
    let fit = λ (i : ℕ). subst (λ (bs : List ℕ). get_or bs i 0 < 256) eight (small_taken 8 (drop at xs) (small_dropped at xs small) i) in
    le_bytes_8 _ number refl fit is ∙ sym eight
