-- What a text's bytes spell, they spell in one way.
use Rattle.std.proofs.Common.{◌≡◌, ◌≤◌, ◌<◌, ◌+◌, ◌*◌, ◌⊎◌, inl, inr, ℕ, ℤ, pos, neg_ℤ, List, [], ◌∷◌, ◌++◌, length, arith, eqb, refl, ap, sym, subst, ◌∙◌, Bool, true, false, length-append}
use Rattle.std.specs.Int.{IsInRange}
use Rattle.std.proofs.lemmas.Bool.Decides.{nat_tests}
use Rattle.std.specs.Prelude.{nat_le}
use Rattle.std.proofs.lemmas.Bool.{false≢true, leb-true, eq-eqb}
use Rattle.std.specs.Cmp.{first_so, second_so}
use Rattle.std.specs.List.{list_all}
use Rattle.std.specs.Char.{digit_value}
use Rattle.fl_lex.specs.Words.{is_digit}
use Rattle.fl_value.specs.CallText.{is_blank, is_mark, is_literal, Blanks, Digits, Number, unsigned, minus, TextByte, itself, quote, backslash, coded, TextBytes, Closed, Token, TokenAt, TheToken, a_number, a_text, a_mark, StopsAt}
use Rattle.fl_value.proofs.Scan.{run_once, digits_once}

pub head_of : (x y : ℕ) (xs ys : List ℕ) → x ∷ xs ≡ y ∷ ys → x ≡ y
head_of x y xs ys e = cc

pub tail_of : (x y : ℕ) (xs ys : List ℕ) → x ∷ xs ≡ y ∷ ys → xs ≡ ys
tail_of x y xs ys e = cc

-- a byte that passes isn't one that doesn't
pub not_that : (p : ℕ → Bool) (b c : ℕ) → p b ≡ true → b ≡ c → p c ≡ false → ⊥
not_that p b c passes same fails = false≢true (sym fails ∙ ap p (sym same) ∙ passes)

pub differ : (m n : ℕ) → eqb m n ≡ false → m ≡ n → ⊥
differ m n fails same = false≢true (sym fails ∙ eq-eqb m n same)

literal_alone : (b c d : ℕ) (a x y : List ℕ) → is_literal b ≡ true → a ≡ b ∷ x → a ≡ 92 ∷ y → ⊥
literal_alone b c d a x y p e f = not_that is_literal b 92 p (head_of b 92 x y (sym e ∙ f)) refl

seconds : (a : List ℕ) (c d : ℕ) (x y : List ℕ) → a ≡ 92 ∷ c ∷ x → a ≡ 92 ∷ d ∷ y → c ≡ d
seconds a c d x y e f = head_of c d x y (tail_of 92 92 (c ∷ x) (d ∷ y) (sym e ∙ f))

thirds : (a : List ℕ) (c d : ℕ) (x y : List ℕ) → a ≡ 92 ∷ c ∷ x → a ≡ 92 ∷ d ∷ y → x ≡ y
thirds a c d x y e f = tail_of c d x y (tail_of 92 92 (c ∷ x) (d ∷ y) (sym e ∙ f))

-- a byte of a text is told by the bytes there
pub byte_once : (b c : ℕ) (a x y : List ℕ) → TextByte b a x → TextByte c a y → (b ≡ c) × (x ≡ y)
byte_once b c a x y (itself p e) (itself q f) = (head_of b c x y (sym e ∙ f), tail_of b c x y (sym e ∙ f))
byte_once b c a x y (itself p e) (quote q f) = absurd (literal_alone b 0 0 a x _ p e f)
byte_once b c a x y (itself p e) (backslash q f) = absurd (literal_alone b 0 0 a x _ p e f)
byte_once b c a x y (itself p e) (coded h l hh ll v f) = absurd (literal_alone b 0 0 a x _ p e f)
byte_once b c a x y (quote p e) (itself q f) = absurd (literal_alone c 0 0 a y _ q f e)
byte_once b c a x y (quote p e) (quote q f) = (p ∙ sym q, thirds a 34 34 x y e f)
byte_once b c a x y (quote p e) (backslash q f) = absurd (differ 34 92 refl (seconds a 34 92 x y e f))
byte_once b c a x y (quote p e) (coded h l hh ll v f) = absurd (differ 34 120 refl (seconds a 34 120 x _ e f))
byte_once b c a x y (backslash p e) (itself q f) = absurd (literal_alone c 0 0 a y _ q f e)
byte_once b c a x y (backslash p e) (quote q f) = absurd (differ 92 34 refl (seconds a 92 34 x y e f))
byte_once b c a x y (backslash p e) (backslash q f) = (p ∙ sym q, thirds a 92 92 x y e f)
byte_once b c a x y (backslash p e) (coded h l hh ll v f) = absurd (differ 92 120 refl (seconds a 92 120 x _ e f))
byte_once b c a x y (coded h l hh ll v e) (itself q f) = absurd (literal_alone c 0 0 a y _ q f e)
byte_once b c a x y (coded h l hh ll v e) (quote q f) = absurd (differ 120 34 refl (seconds a 120 34 _ y e f))
byte_once b c a x y (coded h l hh ll v e) (backslash q f) = absurd (differ 120 92 refl (seconds a 120 92 _ y e f))
byte_once b c a x y (coded h l hh ll v e) (coded g k gg kk w f) =
    let same : h ∷ l ∷ x ≡ g ∷ k ∷ y = thirds a 120 120 (h ∷ l ∷ x) (g ∷ k ∷ y) e f in
    let high : h ≡ g = head_of h g (l ∷ x) (k ∷ y) same in
    let rest : l ∷ x ≡ k ∷ y = tail_of h g (l ∷ x) (k ∷ y) same in
    let low : l ≡ k = head_of l k x y rest in
    (v ∙ ap (λ n. 16 * digit_value n + digit_value l) high ∙ ap (λ n. 16 * digit_value g + digit_value n) low ∙ sym w, tail_of l k x y rest)

-- no byte of a text stands at its closing quote
pub quote_closes : (x : List ℕ) → Closed (34 ∷ x)
quote_closes x b rest (itself p e) = not_that is_literal b 34 p (head_of b 34 rest x (sym e)) refl
quote_closes x b rest (quote p e) = differ 34 92 refl (head_of 34 92 x _ e)
quote_closes x b rest (backslash p e) = differ 34 92 refl (head_of 34 92 x _ e)
quote_closes x b rest (coded h l hh ll v e) = differ 34 92 refl (head_of 34 92 x _ e)

pub bytes_once : (s r : List ℕ) (a x y : List ℕ) → TextBytes s a x → Closed x → TextBytes r a y → Closed y → (s ≡ r) × (x ≡ y)
bytes_once [] [] a x y h cx k cy = (refl, sym h ∙ k)
bytes_once [] (c ∷ r) a x y h cx (next, one, more) cy = absurd (cx c next (subst (λ z. TextByte c z next) h one))
bytes_once (b ∷ s) [] a x y (next, one, more) cx k cy = absurd (cy b next (subst (λ z. TextByte b z next) k one))
bytes_once (b ∷ s) (c ∷ r) a x y (next, one, more) cx (after, two, rest) cy =
    let here = byte_once b c a next after one two in
    let there = bytes_once s r next x y more cx (subst (λ z. TextBytes r z y) (sym here.1) rest) cy in
    let same_byte : b ≡ c = here.0 in
    let same_rest : s ≡ r = there.0 in
    (cc, there.1)

-- one more byte of a text
pub bytes_more : (s : List ℕ) (b : ℕ) (a x y : List ℕ) → TextBytes s a x → TextByte b x y → TextBytes (s ++ (b ∷ [])) a y
bytes_more [] b a x y h one = (y, subst (λ z. TextByte b z y) (sym h) one, refl)
bytes_more (c ∷ s) b a x y (next, first, more) one = (next, first, bytes_more s b next x y more one)

-- no digit is a blank, a mark, a quote or a minus
pub digit_range : (b : ℕ) → is_digit b ≡ true → IsInRange 48 57 b
digit_range b h = (leb-true 48 b (first_so (nat_le 48 b) (nat_le b 57) h), leb-true b 57 (second_so (nat_le 48 b) (nat_le b 57) h))

pub blank_cases : (b : ℕ) → is_blank b ≡ true → (b ≡ 32) ⊎ (b ≡ 9)
blank_cases b h = grind (arith, nat_tests)

not_both : (p : ℕ → Bool) (b : ℕ) → p 32 ≡ false → p 9 ≡ false → p b ≡ true → (v : Bool) → is_blank b ≡ v → v ≡ false
not_both p b n m h false e = refl
not_both p b n m h true e = absurd (elim (blank_cases b e) [ inl f ↦ not_that p b 32 h f n | inr f ↦ not_that p b 9 h f m ])

pub not_blank : (p : ℕ → Bool) (b : ℕ) → p 32 ≡ false → p 9 ≡ false → p b ≡ true → is_blank b ≡ false
not_blank p b n m h = not_both p b n m h (is_blank b) refl

pub mark_no_digit : (b : ℕ) → is_mark b ≡ true → IsInRange 48 57 b → ⊥
mark_no_digit b h r = grind (arith, nat_tests)

-- the byte that a token begins with
abbrev pub First : TheToken → ℕ → Type 0
First (a_number z) b = IsInRange 48 57 b ⊎ (b ≡ 45)
First (a_text s) b = b ≡ 34
First (a_mark m) b = (b ≡ m) × (is_mark m ≡ true)

pub record Begins (t : TheToken) (bytes : List ℕ) : Type 0 where
  pub first : ℕ
  pub more : List ℕ
  pub split : bytes ≡ first ∷ more
  pub kind : First t first
  pub dark : is_blank first ≡ false

pub digits_begin : (n : ℕ) (bytes rest : List ℕ) (digits : List ℕ) → list_all is_digit digits ≡ true → 0 < length digits → bytes ≡ digits ++ rest → (b : ℕ) × (more : List ℕ) × (bytes ≡ b ∷ more) × (is_digit b ≡ true)
digits_begin n bytes rest [] all some e = absurd (omega arith)
digits_begin n bytes rest (d ∷ ds) all some e = (d, ds ++ rest, e, first_so (is_digit d) (list_all is_digit ds) all)

number_begins : (z : ℤ) (bytes rest : List ℕ) → Number z bytes rest → Begins (a_number z) bytes
number_begins z bytes rest (unsigned n e d) =
    let (b, more, split, one) = digits_begin n bytes rest d.digits d.all d.some d.split in
    record { first = b; more = more; split = split; kind = inl (digit_range b one); dark = not_blank is_digit b refl refl one }
number_begins z bytes rest (minus n digits e split d) = record { first = 45; more = digits; split = split; kind = inr refl; dark = refl }

pub token_begins : (t : TheToken) (bytes rest : List ℕ) → TokenAt t bytes rest → Begins t bytes
token_begins (a_number z) bytes rest h = number_begins z bytes rest h
token_begins (a_text s) bytes rest h = record { first = 34; more = h.0; split = h.1; kind = refl; dark = refl }
token_begins (a_mark m) bytes rest h = record { first = m; more = rest; split = h.1; kind = (refl, h.0); dark = not_blank is_mark m refl refl h.0 }

pub number_once : (z w : ℤ) (a x y : List ℕ) → Number z a x → Number w a y → (z ≡ w) × (x ≡ y)
number_once z w a x y (unsigned n e d) (unsigned m f g) =
    let r = digits_once a n m x y d g in
    (e ∙ ap pos r.0 ∙ sym f, r.1)
number_once z w a x y (unsigned n e d) (minus m digits f split g) =
    let (b, more, at, one) = digits_begin n a x d.digits d.all d.some d.split in
    absurd (not_that is_digit b 45 one (head_of b 45 more digits (sym at ∙ split)) refl)
number_once z w a x y (minus n digits e split d) (unsigned m f g) =
    let (b, more, at, one) = digits_begin m a y g.digits g.all g.some g.split in
    absurd (not_that is_digit b 45 one (head_of b 45 more digits (sym at ∙ split)) refl)
number_once z w a x y (minus n digits e split d) (minus m others f at g) =
    let same : digits ≡ others = tail_of 45 45 digits others (sym split ∙ at) in
    let r = digits_once digits n m x y d (subst (λ q. Digits m q y) (sym same) g) in
    (e ∙ ap (λ k. neg_ℤ (pos k)) r.0 ∙ sym f, r.1)

kinds : (t u : TheToken) (a x y : List ℕ) → TokenAt t a x → TokenAt u a y → (b : ℕ) × First t b × First u b
kinds t u a x y h k =
    let p = token_begins t a x h in
    let q = token_begins u a y k in
    let same : p.first ≡ q.first = head_of p.first q.first p.more q.more (sym p.split ∙ q.split) in
    (p.first, p.kind, subst (First u) (sym same) q.kind)

apart_number_text : (b : ℕ) → (IsInRange 48 57 b ⊎ (b ≡ 45)) → b ≡ 34 → ⊥
apart_number_text b (inl r) e = omega arith
apart_number_text b (inr r) e = omega arith

apart_number_mark : (b m : ℕ) → (IsInRange 48 57 b ⊎ (b ≡ 45)) → b ≡ m → is_mark m ≡ true → ⊥
apart_number_mark b m (inl r) e h = mark_no_digit m h (subst (IsInRange 48 57) e r)
apart_number_mark b m (inr r) e h = not_that is_mark m 45 h (sym e ∙ r) refl

apart_text_mark : (b m : ℕ) → b ≡ 34 → b ≡ m → is_mark m ≡ true → ⊥
apart_text_mark b m r e h = not_that is_mark m 34 h (sym e ∙ r) refl

pub token_at_once : (t u : TheToken) (a x y : List ℕ) → TokenAt t a x → TokenAt u a y → (t ≡ u) × (x ≡ y)
token_at_once (a_number z) (a_number w) a x y h k = let r = number_once z w a x y h k in (ap a_number r.0, r.1)
token_at_once (a_number z) (a_text s) a x y h k = let (b, f, g) = kinds (a_number z) (a_text s) a x y h k in absurd (apart_number_text b f g)
token_at_once (a_number z) (a_mark m) a x y h k = let (b, f, g) = kinds (a_number z) (a_mark m) a x y h k in absurd (apart_number_mark b m f g.0 g.1)
token_at_once (a_text s) (a_number z) a x y h k = let (b, f, g) = kinds (a_text s) (a_number z) a x y h k in absurd (apart_number_text b g f)
token_at_once (a_text s) (a_text r) a x y h k =
    let same : h.0 ≡ k.0 = tail_of 34 34 h.0 k.0 (sym h.1 ∙ k.1) in
    let r = bytes_once s r h.0 (34 ∷ x) (34 ∷ y) h.2 (quote_closes x) (subst (λ q. TextBytes r q (34 ∷ y)) (sym same) k.2) (quote_closes y) in
    (ap a_text r.0, tail_of 34 34 x y r.1)
token_at_once (a_text s) (a_mark m) a x y h k = let (b, f, g) = kinds (a_text s) (a_mark m) a x y h k in absurd (apart_text_mark b m f g.0 g.1)
token_at_once (a_mark m) (a_number z) a x y h k = let (b, f, g) = kinds (a_mark m) (a_number z) a x y h k in absurd (apart_number_mark b m g f.0 f.1)
token_at_once (a_mark m) (a_text s) a x y h k = let (b, f, g) = kinds (a_mark m) (a_text s) a x y h k in absurd (apart_text_mark b m g f.0 f.1)
token_at_once (a_mark m) (a_mark n) a x y h k = (ap a_mark (head_of m n x y (sym h.1 ∙ k.1)), tail_of m n x y (sym h.1 ∙ k.1))

-- a token doesn't begin with a blank
pub token_stops : (t : TheToken) (a x : List ℕ) → TokenAt t a x → StopsAt is_blank a
token_stops t a x h =
    let p = token_begins t a x h in
    subst (StopsAt is_blank) (sym p.split) p.dark

-- where blanks end is told by the bytes
pub blanks_once : (a x y : List ℕ) → Blanks a x → StopsAt is_blank x → Blanks a y → StopsAt is_blank y → x ≡ y
blanks_once a x y h sx k sy = (run_once is_blank h.blanks k.blanks x y h.all k.all sx sy (sym h.split ∙ k.split)).1

pub token_once : (t u : TheToken) (a x y : List ℕ) → Token t a x → Token u a y → (t ≡ u) × (x ≡ y)
token_once t u a x y (start, blanks, at) (begin, dark, there) =
    let same : start ≡ begin = blanks_once a start begin blanks (token_stops t start x at) dark (token_stops u begin y there) in
    token_at_once t u start x y at (subst (λ q. TokenAt u q y) (sym same) there)

-- a token takes a byte or more
byte_shorter : (b : ℕ) (a x : List ℕ) → TextByte b a x → length x ≤ length a
byte_shorter b a x (itself p e) = omega (arith, ap length e)
byte_shorter b a x (quote p e) = omega (arith, ap length e)
byte_shorter b a x (backslash p e) = omega (arith, ap length e)
byte_shorter b a x (coded h l hh ll v e) = omega (arith, ap length e)

bytes_shorter : (s a x : List ℕ) → TextBytes s a x → length x ≤ length a
bytes_shorter [] a x h = omega (arith, ap length h)
bytes_shorter (b ∷ s) a x (next, one, more) = omega (arith, byte_shorter b a next one, bytes_shorter s next x more)

digits_shorter : (n : ℕ) (a x : List ℕ) → Digits n a x → length x < length a
digits_shorter n a x d = omega (arith, ap length d.split, length-append d.digits x, d.some)

number_shorter : (z : ℤ) (a x : List ℕ) → Number z a x → length x < length a
number_shorter z a x (unsigned n e d) = digits_shorter n a x d
number_shorter z a x (minus n digits e split d) = omega (arith, ap length split, digits_shorter n digits x d)

at_shorter : (t : TheToken) (a x : List ℕ) → TokenAt t a x → length x < length a
at_shorter (a_number z) a x h = number_shorter z a x h
at_shorter (a_text s) a x h = omega (arith, ap length h.1, bytes_shorter s h.0 (34 ∷ x) h.2)
at_shorter (a_mark m) a x h = omega (arith, ap length h.1)

pub token_shorter : (t : TheToken) (a x : List ℕ) → Token t a x → length x < length a
token_shorter t a x (start, blanks, at) = omega (arith, ap length blanks.split, length-append blanks.blanks start, at_shorter t start x at)
