-- Bytes that are put one after another.
use Rattle.std.proofs.Common.{◌≡◌, ◌≤◌, ◌<◌, ◌+◌, ◌++◌, [], ◌∷◌, ℕ, Bool, true, false, List, length, take, get_or, ltb, arith, refl, ap, sym, ◌∙◌, append_assoc, append-nil}
use Rattle.std.proofs.lemmas.Bool.{le-ltb}
use Rattle.std.proofs.lemmas.List.{take_more, take_all}
use Rattle.std.specs.Prelude.{◌&&◌}
use Rattle.fl_value_data.specs.Fits.{is_text_byte}

pub none_yet : (old bytes : List ℕ) → old ≡ old ++ take 0 bytes
none_yet old bytes = sym (append-nil old)

pub one_byte_more : (k : ℕ) (old put pushed bytes : List ℕ) → k < length bytes → put ≡ old ++ take k bytes → pushed ≡ put ++ get_or bytes k 0 ∷ []
    → pushed ≡ old ++ take (k + 1) bytes
one_byte_more k old put pushed bytes here so_far is =
    let byte = get_or bytes k 0 in
    is ∙ ap (λ (xs : List ℕ). xs ++ byte ∷ []) so_far ∙ append_assoc old (take k bytes) (byte ∷ []) ∙ ap (λ (xs : List ℕ). old ++ xs) (sym (take_more bytes k 0 here))

pub all_bytes : (k : ℕ) (old put bytes : List ℕ) → length bytes ≤ k → put ≡ old ++ take k bytes → put ≡ old ++ bytes
all_bytes k old put bytes past so_far = so_far ∙ ap (λ (xs : List ℕ). old ++ xs) (take_all k bytes past)

and_no : (b : Bool) → (b && false) ≡ false
and_no true = refl
and_no false = refl

pub no_byte : (b : ℕ) → 255 < b → is_text_byte b ≡ false
no_byte b large = ap (λ (small : Bool). ltb 0 b && small) (le-ltb b 256 (omega (arith, large))) ∙ and_no (ltb 0 b)
