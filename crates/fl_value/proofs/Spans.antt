-- Bytes of a text that stand for themselves, taken and printed as one span.
use Rattle.std.proofs.Common.{◌≡◌, ◌+◌, ◌-◌, ◌≤◌, ℕ, zero, suc, Bool, true, false, List, [], ◌∷◌, ◌++◌, length, take, drop, refl, ap, sym, ◌∙◌, cond, eqb, leb, arith, subst, append_assoc}
use Rattle.std.specs.Prelude.{not, ◌&&◌}
use Rattle.std.specs.Cmp.{first_so, second_so}
use Rattle.std.specs.List.{prefix_len, flat_map, list_all}
use Rattle.std.proofs.lemmas.List.{take_all, length-drop, drop-drop}
use Rattle.fl_value.specs.CallText.{is_literal, itself, TextBytes}
use Rattle.fl_value.specs.Printed.{is_shown, printed_byte}

count_next : (p : Bool) (n : ℕ) → cond p (1 + n) 0 ≡ cond p (suc n) 0
count_next true n = omega arith
count_next false n = refl

-- what is left of a slice, as code has it
pub left_of_slice : (bytes : List ℕ) (n : ℕ) → take (length bytes - n) (drop n bytes) ≡ drop n bytes
left_of_slice bytes n = take_all (length bytes - n) (drop n bytes) (omega (arith, length-drop n bytes))

literal_next : (p : Bool) (b : ℕ) (bs : List ℕ) (n m : ℕ) → is_literal b ≡ p → m ≡ cond p (suc n) 0 → TextBytes (take n bs) bs (drop n bs) → TextBytes (take m (b ∷ bs)) (b ∷ bs) (drop m (b ∷ bs))
literal_next true b bs n m e is rest = subst (λ (k : ℕ). TextBytes (take k (b ∷ bs)) (b ∷ bs) (drop k (b ∷ bs))) (sym is) (bs, itself e refl, rest)
literal_next false b bs n m e is rest = subst (λ (k : ℕ). TextBytes (take k (b ∷ bs)) (b ∷ bs) (drop k (b ∷ bs))) (sym is) refl

literal_read : (bytes : List ℕ) → TextBytes (take (prefix_len is_literal bytes) bytes) bytes (drop (prefix_len is_literal bytes) bytes)
literal_read [] = refl
literal_read (b ∷ bs) =
    literal_next (is_literal b) b bs (prefix_len is_literal bs) (prefix_len is_literal (b ∷ bs)) refl (count_next (is_literal b) (prefix_len is_literal bs)) (literal_read bs)

-- they are read as they are
pub literal_span : (bytes text rest : List ℕ) (n : ℕ) → n ≡ prefix_len is_literal bytes → text ≡ take n bytes → rest ≡ drop n bytes → TextBytes text bytes rest
literal_span bytes text rest n is span behind = rw (span, behind, is) (literal_read bytes)

-- a byte by the tests that its printed form makes
by_tests : (b : ℕ) (from quote backslash to : Bool) → ((from && not quote && not backslash) && to) ≡ true
    → (other : List ℕ) → cond quote (92 ∷ 34 ∷ []) (cond backslash (92 ∷ 92 ∷ []) (cond (from && to) (b ∷ []) other)) ≡ b ∷ []
by_tests b true false false true e other = refl
by_tests b true true backslash to e other = absurd (cc)
by_tests b true false true to e other = absurd (cc)
by_tests b true false false false e other = absurd (cc)
by_tests b false quote backslash to e other = absurd (cc)

shown_byte : (b : ℕ) → is_shown b ≡ true → printed_byte b ≡ b ∷ []
shown_byte b e = by_tests b (leb 32 b) (eqb b 34) (eqb b 92) (leb b 126) e _

shown_next : (p : Bool) (b : ℕ) (bs : List ℕ) (n m : ℕ) → is_shown b ≡ p → m ≡ cond p (suc n) 0 → flat_map printed_byte bs ≡ take n bs ++ flat_map printed_byte (drop n bs)
    → flat_map printed_byte (b ∷ bs) ≡ take m (b ∷ bs) ++ flat_map printed_byte (drop m (b ∷ bs))
shown_next true b bs n m e is rest =
    subst (λ (k : ℕ). flat_map printed_byte (b ∷ bs) ≡ take k (b ∷ bs) ++ flat_map printed_byte (drop k (b ∷ bs))) (sym is)
    (ap (λ (l : List ℕ). l ++ flat_map printed_byte bs) (shown_byte b e) ∙ ap (λ (l : List ℕ). b ∷ l) rest)
shown_next false b bs n m e is rest = subst (λ (k : ℕ). flat_map printed_byte (b ∷ bs) ≡ take k (b ∷ bs) ++ flat_map printed_byte (drop k (b ∷ bs))) (sym is) refl

shown_printed : (bytes : List ℕ) → flat_map printed_byte bytes ≡ take (prefix_len is_shown bytes) bytes ++ flat_map printed_byte (drop (prefix_len is_shown bytes) bytes)
shown_printed [] = refl
shown_printed (b ∷ bs) =
    shown_next (is_shown b) b bs (prefix_len is_shown bs) (prefix_len is_shown (b ∷ bs)) refl (count_next (is_shown b) (prefix_len is_shown bs)) (shown_printed bs)

-- they are printed as they are
pub shown_span : (bytes rest : List ℕ) (n : ℕ) → n ≡ prefix_len is_shown bytes → rest ≡ drop n bytes → (end : List ℕ)
    → flat_map printed_byte bytes ++ end ≡ take n bytes ++ (flat_map printed_byte rest ++ end)
shown_span bytes rest n is behind end =
    rw (behind, is) (ap (λ (l : List ℕ). l ++ end) (shown_printed bytes) ∙ append_assoc (take (prefix_len is_shown bytes) bytes) (flat_map printed_byte (drop (prefix_len is_shown bytes) bytes)) end)

-- where all pass, all are counted
pub all_counted : (p : ℕ → Bool) (xs : List ℕ) → list_all p xs ≡ true → length xs ≡ prefix_len p xs
all_counted p [] all = refl
all_counted p (x ∷ xs) all =
    let rest = all_counted p xs (second_so (p x) (list_all p xs) all) in
    rw (first_so (p x) (list_all p xs) all) (omega (arith, rest))

-- a front that passes is counted, and then what is behind it
passed : (p : ℕ → Bool) (m : ℕ) (ys : List ℕ) → list_all p (take m ys) ≡ true → m ≤ length ys → m + prefix_len p (drop m ys) ≡ prefix_len p ys
passed p zero ys all few = omega arith
passed p (suc m) [] all few = absurd (omega (arith, few))
passed p (suc m) (y ∷ ys) all few =
    let rest = passed p m ys (second_so (p y) (list_all p (take m ys)) all) (omega (arith, few)) in
    rw (first_so (p y) (list_all p (take m ys)) all) (omega (arith, rest))

-- one more span is counted
pub span_passed : (p : ℕ → Bool) (xs : List ℕ) (n m k : ℕ) → list_all p (take m (drop n xs)) ≡ true → k ≡ n + m → k ≤ length xs → n + prefix_len p (drop n xs) ≡ prefix_len p xs
    → k + prefix_len p (drop k xs) ≡ prefix_len p xs
span_passed p xs n m k all is few before =
    let there : m ≤ length (drop n xs) = omega (arith, length-drop n xs, few, is) in
    let next = passed p m (drop n xs) all there in
    let twice = ap (λ (ys : List ℕ). prefix_len p ys) (drop-drop m n xs) in
    rw is (omega (arith, before, next, twice))
