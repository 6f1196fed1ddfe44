-- Words, found from the front.
use Rattle.std.proofs.Common.{◌≡◌, ◌<◌, ◌≤◌, ℕ, ◌+◌, ◌-◌, ◌*◌, ◌^◌, ◌==◌, Bool, true, false, List, [], ◌∷◌, length, take, drop, get_or, refl, sym, ap, subst, ◌∙◌, arith, suc, zero, lit<}
use Rattle.std.proofs.Math.Nat.{pow-le-pow_right}
use Rattle.std.proofs.lemmas.Grind.{pow_more}
use Rattle.std.proofs.lemmas.Bool.Decides.{nat_tests}
use Rattle.std.proofs.lemmas.List.{take_all, drop_all}
use Rattle.std.specs.Char.{digit_value}
use Rattle.fl_lex.specs.Words.{is_digit}
use Rattle.fl_value.specs.CallText.{is_blank, without_blanks}
use Rattle.fl_script_lines.specs.Words.{to_blank, from_blank, first_word, behind_word, joins_word, words_of}

pub word_at : (i : ℕ) (line : List ℕ) → i < length line → ((k : ℕ) → k < i → is_blank (get_or line k 0) ≡ false) → is_blank (get_or line i 0) ≡ true
    → (to_blank line ≡ take i line) × (from_blank line ≡ drop i line)
word_at i [] h others blank = absurd (omega (arith, h))
word_at zero (b ∷ line) h others blank = (rw blank refl, rw blank refl)
word_at (suc i) (b ∷ line) h others blank =
    let first = others zero (omega arith) in
    let e = word_at i line (omega (arith, h)) (λ k below. others (suc k) (omega (arith, below))) blank in
    (rw first (ap (λ w. b ∷ w) e.0), rw first e.1)

pub word_whole : (line : List ℕ) → ((k : ℕ) → k < length line → is_blank (get_or line k 0) ≡ false)
    → (to_blank line ≡ line) × (from_blank line ≡ [])
word_whole [] others = (refl, refl)
word_whole (b ∷ line) others =
    let first = others zero (omega arith) in
    let e = word_whole line (λ k below. others (suc k) (omega (arith, below))) in
    (rw first (ap (λ w. b ∷ w) e.0), rw first e.1)

pub word_rest : (line front back : List ℕ) → front ≡ take (length line) line → back ≡ drop (length line) line
    → ((k : ℕ) → k < length line → is_blank (get_or line k 0) ≡ false) → (front ≡ to_blank line) × (back ≡ from_blank line)
word_rest line front back f b others =
    let e = word_whole line others in
    (rw (f, take_all (length line) line (omega arith)) (sym e.0), rw (b, drop_all (length line) line (omega arith)) (sym e.1))

words_blank : (b : ℕ) (line : List ℕ) → is_blank b ≡ true → words_of (b ∷ line) ≡ words_of line
words_blank b line e = rw e refl

words_other : (b : ℕ) (line : List ℕ) → is_blank b ≡ false → words_of (b ∷ line) ≡ joins_word b line (words_of line)
words_other b line e = rw e refl

skips_blank : (b : ℕ) (line : List ℕ) → is_blank b ≡ true → without_blanks (b ∷ line) ≡ without_blanks line
skips_blank b line e = rw e refl

skips_none : (b : ℕ) (line : List ℕ) → is_blank b ≡ false → without_blanks (b ∷ line) ≡ b ∷ line
skips_none b line e = rw e refl

to_other : (b : ℕ) (line : List ℕ) → is_blank b ≡ false → to_blank (b ∷ line) ≡ b ∷ to_blank line
to_other b line e = rw e refl

to_none : (b : ℕ) (line : List ℕ) → is_blank b ≡ true → to_blank (b ∷ line) ≡ []
to_none b line e = rw e refl

from_other : (b : ℕ) (line : List ℕ) → is_blank b ≡ false → from_blank (b ∷ line) ≡ from_blank line
from_other b line e = rw e refl

from_here : (b : ℕ) (line : List ℕ) → is_blank b ≡ true → from_blank (b ∷ line) ≡ b ∷ line
from_here b line e = rw e refl

blank_second : (b c : ℕ) (line : List ℕ) (words : List (List ℕ)) → is_blank c ≡ true → joins_word b (c ∷ line) words ≡ (b ∷ []) ∷ words
blank_second b c line [] e = refl
blank_second b c line (w ∷ words) e = rw e refl

join_more : (b c : ℕ) (line w : List ℕ) (words : List (List ℕ)) → is_blank c ≡ false → joins_word b (c ∷ line) (w ∷ words) ≡ (b ∷ w) ∷ words
join_more b c line w words e = rw e refl

two_words : (b : ℕ) (x y : List ℕ) (v w : List ℕ) → x ≡ y → v ≡ w → (b ∷ x) ∷ words_of v ≡ (b ∷ y) ∷ words_of w
two_words b x y v w e f = ap (λ z. (b ∷ z) ∷ words_of v) e ∙ ap (λ z. (b ∷ y) ∷ words_of z) f

-- the first word, and then those behind it
joined : (b : ℕ) (line : List ℕ) → joins_word b line (words_of line) ≡ (b ∷ to_blank line) ∷ words_of (from_blank line)
joined b [] = refl
joined b (c ∷ line) = by_second (joined c line) (is_blank c) refl
  where
    by_second : joins_word c line (words_of line) ≡ (c ∷ to_blank line) ∷ words_of (from_blank line) → (x : Bool) → is_blank c ≡ x
        → joins_word b (c ∷ line) (words_of (c ∷ line)) ≡ (b ∷ to_blank (c ∷ line)) ∷ words_of (from_blank (c ∷ line))
    by_second inner true e =
        blank_second b c line (words_of (c ∷ line)) e
        ∙ two_words b [] (to_blank (c ∷ line)) (c ∷ line) (from_blank (c ∷ line)) (sym (to_none c line e)) (sym (from_here c line e))
    by_second inner false e =
        ap (joins_word b (c ∷ line)) (words_other c line e ∙ inner)
        ∙ (join_more b c line (c ∷ to_blank line) (words_of (from_blank line)) e
        ∙ two_words b (c ∷ to_blank line) (to_blank (c ∷ line)) (from_blank line) (from_blank (c ∷ line)) (sym (to_other c line e)) (sym (from_other c line e)))

Steps : List ℕ → Type 0
Steps line =
    (0 < length (to_blank (without_blanks line)) → words_of line ≡ to_blank (without_blanks line) ∷ words_of (from_blank (without_blanks line)))
    × (length (to_blank (without_blanks line)) ≡ 0 → words_of line ≡ [])
    × (0 < length (to_blank (without_blanks line)) → length (from_blank (without_blanks line)) < length line)

from_blank_shorter : (line : List ℕ) → length (from_blank line) ≤ length line
from_blank_shorter [] = omega arith
from_blank_shorter (b ∷ line) = by_first (from_blank_shorter line) (is_blank b) refl
  where
    by_first : length (from_blank line) ≤ length line → (x : Bool) → is_blank b ≡ x → length (from_blank (b ∷ line)) ≤ length (b ∷ line)
    by_first inner true e = let f = ap (λ (z : List ℕ). length z) (from_here b line e) in omega (arith, f)
    by_first inner false e = let f = ap (λ (z : List ℕ). length z) (from_other b line e) in omega (arith, f, inner)

steps : (line : List ℕ) → Steps line
unfolding Steps
steps [] = ((λ h. absurd (omega (arith, h))), (λ h. refl), (λ h. absurd (omega (arith, h))))
steps (b ∷ line) = by_first (steps line) (is_blank b) refl
  where
    by_first : Steps line → (x : Bool) → is_blank b ≡ x → Steps (b ∷ line)
    by_first inner true e =
        let skipped = skips_blank b line e in
        let same = words_blank b line e in (
          (λ h. rw (skipped, same) (inner.0 (subst (λ (z : List ℕ). 0 < length (to_blank z)) skipped h))),
          (λ h. same ∙ inner.1 (subst (λ (z : List ℕ). length (to_blank z) ≡ 0) skipped h)),
          (λ h. let less = inner.2 (subst (λ (z : List ℕ). 0 < length (to_blank z)) skipped h) in rw skipped (omega (arith, less))),
        )
    by_first inner false e =
        let skipped = skips_none b line e in
        let word = to_other b line e in
        let rest = from_other b line e in (
          (λ h. rw (skipped, word, rest) (words_other b line e ∙ joined b line)),
          (λ h. let none : length (to_blank (b ∷ line)) ≡ 0 = subst (λ (z : List ℕ). length (to_blank z) ≡ 0) skipped h in
              let f = ap (λ (z : List ℕ). length z) word in absurd (omega (arith, none, f))),
          (λ h. let shorter = from_blank_shorter line in rw (skipped, rest) (omega (arith, shorter))),
        )

pub words_step : (line : List ℕ) → 0 < length (first_word line) → words_of line ≡ first_word line ∷ words_of (behind_word line)
unfolding Steps
words_step line = (steps line).0

pub no_words : (line : List ℕ) → length (first_word line) ≡ 0 → words_of line ≡ []
unfolding Steps
no_words line = (steps line).1

-- behind a word stands less than before
pub behind_shorter : (line : List ℕ) → 0 < length (first_word line) → length (behind_word line) < length line
unfolding Steps
behind_shorter line = (steps line).2

-- Numbers.

-- nine digits fit 32 bits
pub ten_more : (i : ℕ) (value : ℕ) → i < 9 → value < 10 ^ i → 10 * value + 9 < 2 ^ 32
ten_more i value below h =
    let most : 10 ^ i ≤ 10 ^ 8 = pow-le-pow_right {n = 10} (lit< tt) {i = i} {j = 8} (omega (arith, below)) in
    omega (arith, h, most)

pub one_more_digit : (i : ℕ) (value digit : ℕ) → value < 10 ^ i → digit ≤ 9 → 10 * value + digit < 10 ^ (i + 1)
one_more_digit i value digit h small = let e = pow_more 10 i in omega (arith, h, small, e)

-- a digit, and its value
pub record DigitIs (d : ℕ) : Type 0 where
  pub least : 48 ≤ d
  pub most : d - 48 ≤ 9
  pub value : digit_value d ≡ d - 48

pub digit_is : (d : ℕ) (r : Bool) → r ≡ is_digit d → r ≡ true → DigitIs d
digit_is d r e t =
    let tested : is_digit d ≡ true = sym e ∙ t in
    let least : 48 ≤ d = grind (arith, nat_tests, tested) in
    let most : d ≤ 57 = grind (arith, nat_tests, tested) in
    record { least = least; most = omega (arith, most); value = grind (arith, nat_tests, least, most) }

pub none_there : (n : ℕ) (r : Bool) → r ≡ (n == 0) → r ≡ true → n ≡ 0
none_there n r e t = let h : (n == 0) ≡ true = sym e ∙ t in grind (arith, nat_tests, h)

pub some_there : (n : ℕ) (r : Bool) → r ≡ (n == 0) → r ≡ false → 0 < n
some_there n r e f = let h : (n == 0) ≡ false = sym e ∙ f in grind (arith, nat_tests, h)
