-- What the readers of tokens find, and why there is nothing where they find nothing.
use Rattle.std.proofs.Common.{◌≡◌, ◌≤◌, ◌-◌, ℕ, ℤ, pos, neg_ℤ, List, [], ◌∷◌, length, take, drop, get_or, arith, refl, ap, sym, subst, ◌∙◌, true, Option, Some, None}
use Rattle.std.specs.Option.{IfNone}
use Rattle.std.proofs.lemmas.List.{take_all}
use Rattle.std.proofs.Common.{length-drop}
use Rattle.std.specs.List.{prefix_len}
use Rattle.std.specs.Str.Parse.{digits_value}
use Rattle.fl_lex.specs.Words.{is_digit}
use Rattle.fl_value.specs.CallText.{is_blank, without_blanks, Blanks, Digits, Number, unsigned, minus, TextBytes, Closed, Token, TokenAt, TheToken, a_number, a_text, a_mark, StopsAt}
use Rattle.fl_value.proofs.Scan.{blank_more, counted}
use Rattle.fl_value.proofs.Once.{head_of, tail_of, not_that, blanks_once, bytes_once, quote_closes, token_stops, digits_begin}

-- the bytes after the first
abbrev pub tail : List ℕ → List ℕ
tail a = take (length a - 1) (drop 1 a)

pub uncons : (a : List ℕ) → 1 ≤ length a → a ≡ get_or a 0 0 ∷ tail a
uncons [] h = absurd (omega arith)
uncons (b ∷ a) h = let same : take (length (b ∷ a) - 1) a ≡ a = take_all _ a (omega arith) in ap (λ x. b ∷ x) (sym same)

pub tail_shorter : (a : List ℕ) → length (tail a) ≤ length a
tail_shorter [] = omega arith
tail_shorter (b ∷ a) = let same : take (length (b ∷ a) - 1) a ≡ a = take_all _ a (omega arith) in omega (arith, ap length same)

pub blank_step : (bytes a : List ℕ) → Blanks bytes a → 1 ≤ length a → is_blank (get_or a 0 0) ≡ true → Blanks bytes (tail a)
blank_step bytes a h some e = blank_more bytes (tail a) (get_or a 0 0) (subst (Blanks bytes) (uncons a some) h) e

skips_blank : (b : ℕ) (a : List ℕ) → is_blank b ≡ true → without_blanks (b ∷ a) ≡ without_blanks a
skips_blank b a e = rw e refl

pub skip_step : (bytes a : List ℕ) → without_blanks a ≡ without_blanks bytes → 1 ≤ length a → is_blank (get_or a 0 0) ≡ true → without_blanks (tail a) ≡ without_blanks bytes
skip_step bytes [] same some e = absurd (omega (arith, some))
skip_step bytes (b ∷ a) same some e =
    let whole : take (length (b ∷ a) - 1) a ≡ a = take_all _ a (omega arith) in
    ap without_blanks whole ∙ (sym (skips_blank b a e) ∙ same)

pub counted_at : (xs : List ℕ) (n value : ℕ) → n ≡ prefix_len is_digit xs → (n ≡ 0 → ⊥) → n ≤ 20 → value ≡ digits_value 10 (take n xs) → Digits value xs (take (length xs - n) (drop n xs))
counted_at xs n value e some few v =
    let found = counted xs (omega (arith, e, some)) (omega (arith, e, few)) in
    let rest : take (length xs - n) (drop n xs) ≡ drop n xs = take_all _ (drop n xs) (omega (arith, length-drop n xs)) in
    let same_value : value ≡ digits_value 10 (take (prefix_len is_digit xs) xs) = v ∙ ap (λ k. digits_value 10 (take k xs)) e in
    subst (λ x. Digits value xs x) (sym rest) (subst (λ k. Digits value xs (drop k xs)) (sym e) (subst (λ k. Digits k xs (drop (prefix_len is_digit xs) xs)) (sym same_value) found))

-- numbers
pub minus_found : (bytes start digits rest : List ℕ) (n : ℕ) (z : ℤ) → Blanks bytes start → start ≡ 45 ∷ digits → Digits n digits rest → z ≡ neg_ℤ (pos n) → Token (a_number z) bytes rest
minus_found bytes start digits rest n z blanks e d v = (start, blanks, minus n digits v e d)

pub digits_found : (bytes start rest : List ℕ) (n : ℕ) (z : ℤ) → Blanks bytes start → Digits n start rest → z ≡ pos n → Token (a_number z) bytes rest
digits_found bytes start rest n z blanks d v = (start, blanks, unsigned n v d)

pub at_start : (t : TheToken) (bytes start rest : List ℕ) → Blanks bytes start → StopsAt is_blank start → Token t bytes rest → TokenAt t start rest
at_start t bytes start rest blanks stops (begin, dark, at) =
    subst (λ a. TokenAt t a rest) (blanks_once bytes begin start dark (token_stops t begin rest at) blanks stops) at

no_minus : (start digits rest : List ℕ) (z : ℤ) → start ≡ 45 ∷ digits → ((n : ℕ) (x : List ℕ) → Digits n digits x → ⊥) → Number z start rest → ⊥
no_minus start digits rest z e none (unsigned n v d) =
    let (b, more, at, one) = digits_begin n start rest d.digits d.all d.some d.split in
    not_that is_digit b 45 one (head_of b 45 more digits (sym at ∙ e)) refl
no_minus start digits rest z e none (minus n others v split d) =
    none n rest (subst (λ x. Digits n x rest) (tail_of 45 45 others digits (sym split ∙ e)) d)

pub minus_none : (bytes start digits : List ℕ) → Blanks bytes start → StopsAt is_blank start → start ≡ 45 ∷ digits → ((n : ℕ) (x : List ℕ) → Digits n digits x → ⊥) → (z : ℤ) (rest : List ℕ) → Token (a_number z) bytes rest → ⊥
minus_none bytes start digits blanks stops e none z rest t = no_minus start digits rest z e none (at_start (a_number z) bytes start rest blanks stops t)

no_digits : (start rest : List ℕ) (z : ℤ) → ((x : List ℕ) → start ≡ 45 ∷ x → ⊥) → ((n : ℕ) (x : List ℕ) → Digits n start x → ⊥) → Number z start rest → ⊥
no_digits start rest z other none (unsigned n v d) = none n rest d
no_digits start rest z other none (minus n digits v split d) = other digits split

pub digits_none : (bytes start : List ℕ) → Blanks bytes start → StopsAt is_blank start → ((x : List ℕ) → start ≡ 45 ∷ x → ⊥) → ((n : ℕ) (x : List ℕ) → Digits n start x → ⊥) → (z : ℤ) (rest : List ℕ) → Token (a_number z) bytes rest → ⊥
digits_none bytes start blanks stops other none z rest t = no_digits start rest z other none (at_start (a_number z) bytes start rest blanks stops t)

pub none_weaker : {T P Q : Type 0} (o : Option T) → (P → Q) → IfNone o P → IfNone o Q
none_weaker None f h = f h
none_weaker (Some x) f h = tt

-- marks
pub mark_none : (bytes start : List ℕ) (m : ℕ) → Blanks bytes start → StopsAt is_blank start → ((x : List ℕ) → start ≡ m ∷ x → ⊥) → (rest : List ℕ) → Token (a_mark m) bytes rest → ⊥
mark_none bytes start m blanks stops other rest t = other rest (at_start (a_mark m) bytes start rest blanks stops t).1

-- texts
pub text_found : (bytes start inside last rest s : List ℕ) → Blanks bytes start → start ≡ 34 ∷ inside → TextBytes s inside last → last ≡ 34 ∷ rest → Token (a_text s) bytes rest
text_found bytes start inside last rest s blanks e h f = (start, blanks, (inside, e, subst (λ x. TextBytes s inside x) f h))

pub text_unopened : (bytes start : List ℕ) → Blanks bytes start → StopsAt is_blank start → ((x : List ℕ) → start ≡ 34 ∷ x → ⊥) → (s rest : List ℕ) → Token (a_text s) bytes rest → ⊥
text_unopened bytes start blanks stops other s rest t = let at = at_start (a_text s) bytes start rest blanks stops t in other at.0 at.1

pub text_unclosed : (bytes start inside text last : List ℕ) → Blanks bytes start → StopsAt is_blank start → start ≡ 34 ∷ inside → TextBytes text inside last → Closed last → ((x : List ℕ) → last ≡ 34 ∷ x → ⊥) → (s rest : List ℕ) → Token (a_text s) bytes rest → ⊥
text_unclosed bytes start inside text last blanks stops e here closed other s rest t =
    let at = at_start (a_text s) bytes start rest blanks stops t in
    let same : at.0 ≡ inside = tail_of 34 34 at.0 inside (sym at.1 ∙ e) in
    let r = bytes_once text s inside last (34 ∷ rest) here closed (subst (λ x. TextBytes s x (34 ∷ rest)) same at.2) (quote_closes rest) in
    other rest r.1

-- where a slice doesn't begin so
pub no_head : (a : List ℕ) (b : ℕ) → (1 ≤ length a → get_or a 0 0 ≡ b → ⊥) → (x : List ℕ) → a ≡ b ∷ x → ⊥
no_head [] b h x e = absurd (cc)
no_head (c ∷ a) b h x e = h (omega arith) (head_of c b a x e)
