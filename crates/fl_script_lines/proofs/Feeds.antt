-- The first line feed among the first bytes of a text, which are compared together.
use Rattle.std.proofs.Common.{◌≡◌, ◌+◌, ◌<◌, ◌≤◌, ◌^◌, ℕ, List, length, map, take, eqb, get_or, sym, subst, ◌∙◌, true, arith, w32, w64}
use Rattle.std.proofs.lemmas.Bool.{false≢true}
use Rattle.std.proofs.lemmas.List.{length-map}
use Rattle.std.proofs.lemmas.Nat.Bits.{bit_at-trailing_zeros}
use Rattle.std.proofs.lemmas.Simd.{mask_l-lt, length-chunk, trailing_mask_l, run_in_chunk_fails, run_in_chunk_stops}
use Rattle.std.specs.Int.{trailing_zeros}
use Rattle.std.specs.Simd.Lanes.{mask_l}
use Rattle.memchr.specs.Find.{NoneBefore, Passes, is_byte}

-- the bits that stand for the line feeds among the first 32 bytes
abbrev pub feeds_of : List ℕ → ℕ
feeds_of bytes = mask_l (map (λ x. eqb x 10) (take 32 bytes))

-- the lowest of them stands for the first line feed of all
pub first_feed : (bytes : List ℕ) → 32 ≤ length bytes → 0 < feeds_of bytes
    → NoneBefore (Passes (is_byte 10) bytes) 0 (length bytes) (trailing_zeros w64 (feeds_of bytes)) × Passes (is_byte 10) bytes (trailing_zeros w64 (feeds_of bytes))
first_feed bytes many some =
    let p = λ (x : ℕ). eqb x 10 in
    let first = take 32 bytes in
    let long : length first ≡ 32 = length-chunk 0 32 bytes many in
    let counted = trailing_mask_l p 64 first (omega (arith, long)) some in
    let bits : length (map p first) ≡ 32 = length-map first p ∙ long in
    let small : feeds_of bytes < 2 ^ 32 = subst (λ n. feeds_of bytes < 2 ^ n) bits (mask_l-lt (map p first)) in
    let short = (bit_at-trailing_zeros w32 (feeds_of bytes) some small).0 in
    let near : trailing_zeros w64 (feeds_of bytes) < 32 = omega (arith, short, trailing_mask_l p 32 first (omega (arith, long)) some, counted) in
    let at : ℕ = trailing_zeros w64 (feeds_of bytes) in
    let same : 0 + at ≡ at = omega arith in (
      record {
        low = omega arith;
        high = omega (arith, near, many);
        before = λ j from to feed. false≢true (sym (run_in_chunk_fails p bytes 0 32 at 0 many counted j from (omega (arith, to))) ∙ feed);
      },
      subst (λ n. p (get_or bytes n 0) ≡ true) same (run_in_chunk_stops p bytes 0 32 at 0 many counted near),
    )
