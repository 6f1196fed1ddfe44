-- Each text spells a call, or none.
use Rattle.std.proofs.Common.{◌≡◌, ◌⊎◌, inl, inr, ◌≤◌, ◌<◌, ◌+◌, ℕ, zero, suc, ℤ, pos, neg_ℤ, Bool, true, false, List, [], ◌∷◌, ◌++◌, length, take, drop, arith, refl, ap, sym, subst, ◌∙◌}
use Rattle.std.proofs.lemmas.Bool.Decides.{nat_tests}
use Rattle.std.proofs.lemmas.Bool.{eqb-true, true≢false}
use Rattle.std.proofs.lemmas.List.{take-append-drop}
use Rattle.std.specs.Prelude.{nat_le, ◌==◌}
use Rattle.std.specs.List.{list_all, prefix_len}
use Rattle.std.specs.Char.{digit_value}
use Rattle.std.specs.Str.Parse.{digits_value}
use Rattle.fl_lex.specs.Words.{is_digit, is_word_byte, is_name}
use Rattle.fl_lex.proofs.Classes.{both}
use Rattle.fl_value_data.specs.Value.{Datum, number, string, elements, fields, Data, nothing_more, also, data_from}
use Rattle.fl_value.specs.CallText.{is_blank, is_mark, is_literal, is_close, Blanks, Digits, TextByte, itself, quote, backslash, coded, TextBytes, Closed, Token, a_number, a_text, a_mark, StopsAt, SpellsValue, SpellsCall, Listed, Enclosed, depth_of, greatest_depth}
use Rattle.fl_value.proofs.Scan.{run_once, run_passes, run_stops, counted, digits_count, blank_none}
use Rattle.fl_value.proofs.Once.{head_of, tail_of, not_that, differ, token_shorter}
use Rattle.fl_value.proofs.Reading.{minus_found, digits_found, minus_none, digits_none, mark_none, text_found, text_unopened, text_unclosed}
use Rattle.fl_value.proofs.Nested.{Commas, with_last, depth_last, commas_more, commas_end, no_value, no_mark, no_kind, not_enclosed, not_inside}
use Rattle.fl_value.proofs.Words.{word_all, no_word, no_open, no_arguments, not_ended, spelled_call}

-- ---- blanks, and single bytes

one_blank : (b : ℕ) (a start : List ℕ) → is_blank b ≡ true → Blanks a start → Blanks (b ∷ a) start
one_blank b a start e h = record {
  blanks = b ∷ h.blanks;
  all = both (is_blank b) (list_all is_blank h.blanks) e h.all;
  split = ap (λ (z : List ℕ). b ∷ z) h.split;
}

abbrev pub Dark : List ℕ → Type 0
Dark a = (start : List ℕ) × Blanks a start × StopsAt is_blank start

skip_by : (b : ℕ) (a : List ℕ) (t : Bool) → is_blank b ≡ t → Dark a → Dark (b ∷ a)
skip_by b a true e (start, h, stops) = (start, one_blank b a start e h, stops)
skip_by b a false e more = (b ∷ a, blank_none (b ∷ a), e)

skip : (a : List ℕ) → Dark a
skip [] = ([], blank_none [], tt)
skip (b ∷ a) = skip_by b a (is_blank b) refl (skip a)

-- a text begins with a byte, or doesn't
abbrev pub Headed : ℕ → List ℕ → Type 0
Headed m a = ((x : List ℕ) × (a ≡ m ∷ x)) ⊎ ((x : List ℕ) → a ≡ m ∷ x → ⊥)

headed_by : (b m : ℕ) (a : List ℕ) (t : Bool) → (b == m) ≡ t → Headed m (b ∷ a)
headed_by b m a true e = inl (a, ap (λ c. c ∷ a) (eqb-true b m e))
headed_by b m a false e = inr (λ x f. differ b m e (head_of b m a x f))

headed : (m : ℕ) (a : List ℕ) → Headed m a
headed m [] = inr (λ x e. absurd (cc))
headed m (b ∷ a) = headed_by b m a (b == m) refl

-- ---- numbers

abbrev pub DigitsAt : List ℕ → Type 0
DigitsAt a = ((n : ℕ) × (rest : List ℕ) × Digits n a rest) ⊎ ((n : ℕ) (rest : List ℕ) → Digits n a rest → ⊥)

digits_by : (a : List ℕ) (s t : Bool) → nat_le 1 (prefix_len is_digit a) ≡ s → nat_le (prefix_len is_digit a) 20 ≡ t → DigitsAt a
digits_by a true true e f =
    let some : 0 < prefix_len is_digit a = grind (arith, nat_tests, e) in
    let few : prefix_len is_digit a ≤ 20 = grind (arith, nat_tests, f) in
    inl (digits_value 10 (take (prefix_len is_digit a) a), drop (prefix_len is_digit a) a, counted a some few)
digits_by a false t e f = inr (λ n rest d. let h = (digits_count a n rest d).0 in absurd (grind (arith, nat_tests, e, h)))
digits_by a true false e f = inr (λ n rest d. let h = (digits_count a n rest d).1 in absurd (grind (arith, nat_tests, f, h)))

digits_at : (a : List ℕ) → DigitsAt a
digits_at a = digits_by a (nat_le 1 (prefix_len is_digit a)) (nat_le (prefix_len is_digit a) 20) refl refl

abbrev pub NumberAt : List ℕ → Type 0
NumberAt a = ((z : ℤ) × (rest : List ℕ) × Token (a_number z) a rest) ⊎ ((z : ℤ) (rest : List ℕ) → Token (a_number z) a rest → ⊥)

behind_minus : (a start digits : List ℕ) → Blanks a start → StopsAt is_blank start → start ≡ 45 ∷ digits → DigitsAt digits → NumberAt a
behind_minus a start digits blanks stops e (inl (n, rest, d)) = inl (neg_ℤ (pos n), rest, minus_found a start digits rest n (neg_ℤ (pos n)) blanks e d refl)
behind_minus a start digits blanks stops e (inr none) = inr (minus_none a start digits blanks stops e none)

without_minus : (a start : List ℕ) → Blanks a start → StopsAt is_blank start → ((x : List ℕ) → start ≡ 45 ∷ x → ⊥) → DigitsAt start → NumberAt a
without_minus a start blanks stops other (inl (n, rest, d)) = inl (pos n, rest, digits_found a start rest n (pos n) blanks d refl)
without_minus a start blanks stops other (inr none) = inr (digits_none a start blanks stops other none)

number_by : (a start : List ℕ) → Blanks a start → StopsAt is_blank start → Headed 45 start → NumberAt a
number_by a start blanks stops (inl (digits, e)) = behind_minus a start digits blanks stops e (digits_at digits)
number_by a start blanks stops (inr other) = without_minus a start blanks stops other (digits_at start)

number_at : (a : List ℕ) → NumberAt a
number_at a = let (start, blanks, stops) = skip a in number_by a start blanks stops (headed 45 start)

-- ---- marks

abbrev pub MarkAt : ℕ → List ℕ → Type 0
MarkAt m a = ((rest : List ℕ) × Token (a_mark m) a rest) ⊎ ((rest : List ℕ) → Token (a_mark m) a rest → ⊥)

mark_by : (m : ℕ) (a start : List ℕ) → is_mark m ≡ true → Blanks a start → StopsAt is_blank start → Headed m start → MarkAt m a
mark_by m a start h blanks stops (inl (rest, e)) = inl (rest, (start, blanks, (h, e)))
mark_by m a start h blanks stops (inr other) = inr (mark_none a start m blanks stops other)

mark_at : (m : ℕ) (a : List ℕ) → is_mark m ≡ true → MarkAt m a
mark_at m a h = let (start, blanks, stops) = skip a in mark_by m a start h blanks stops (headed m start)

-- ---- texts

abbrev pub ByteAt : List ℕ → Type 0
ByteAt a = ((b : ℕ) × (rest : List ℕ) × TextByte b a rest × (length rest < length a)) ⊎ Closed a

empty_closed : (b : ℕ) (rest : List ℕ) → TextByte b [] rest → ⊥
empty_closed b rest (itself p e) = absurd (cc)
empty_closed b rest (quote p e) = absurd (cc)
empty_closed b rest (backslash p e) = absurd (cc)
empty_closed b rest (coded high low h l v e) = absurd (cc)

-- neither a byte that stands for itself nor a backslash
odd_closed : (c : ℕ) (a : List ℕ) → is_literal c ≡ false → (c == 92) ≡ false → Closed (c ∷ a)
odd_closed c a odd other b rest (itself p e) = not_that is_literal b c p (head_of b c rest a (sym e)) odd
odd_closed c a odd other b rest (quote p e) = differ c 92 other (head_of c 92 a _ e)
odd_closed c a odd other b rest (backslash p e) = differ c 92 other (head_of c 92 a _ e)
odd_closed c a odd other b rest (coded high low h l v e) = differ c 92 other (head_of c 92 a _ e)

-- a backslash, and nothing that it may stand before
backslash_closed : (a : List ℕ) → ((x : List ℕ) → a ≡ 34 ∷ x → ⊥) → ((x : List ℕ) → a ≡ 92 ∷ x → ⊥)
    → ((high low : ℕ) (x : List ℕ) → digit_value high < 16 → digit_value low < 16 → a ≡ 120 ∷ high ∷ low ∷ x → ⊥) → Closed (92 ∷ a)
backslash_closed a q s h b rest (itself p e) = not_that is_literal b 92 p (head_of b 92 rest a (sym e)) refl
backslash_closed a q s h b rest (quote p e) = q rest (tail_of 92 92 a _ e)
backslash_closed a q s h b rest (backslash p e) = s rest (tail_of 92 92 a _ e)
backslash_closed a q s h b rest (coded high low g l v e) = h high low rest g l (tail_of 92 92 a _ e)

abbrev pub HexAt : List ℕ → Type 0
HexAt a =
    ((high : ℕ) × (low : ℕ) × (x : List ℕ) × (digit_value high < 16) × (digit_value low < 16) × (a ≡ 120 ∷ high ∷ low ∷ x))
    ⊎ ((high low : ℕ) (x : List ℕ) → digit_value high < 16 → digit_value low < 16 → a ≡ 120 ∷ high ∷ low ∷ x → ⊥)

hex_by : (c g l : ℕ) (a : List ℕ) (r s t : Bool) → (c == 120) ≡ r → nat_le (digit_value g) 15 ≡ s → nat_le (digit_value l) 15 ≡ t
    → HexAt (c ∷ g ∷ l ∷ a)
hex_by c g l a true true true e f h =
    inl (g, l, a, grind (arith, nat_tests, f), grind (arith, nat_tests, h), ap (λ z. z ∷ g ∷ l ∷ a) (eqb-true c 120 e))
hex_by c g l a false s t e f h = inr (λ high low x p q i. differ c 120 e (head_of c 120 _ _ i))
hex_by c g l a true false t e f h = inr (λ high low x p q i.
    let same : g ≡ high = head_of g high _ _ (tail_of c 120 _ _ i) in
    let less : digit_value g < 16 = subst (λ z. digit_value z < 16) (sym same) p in
    absurd (grind (arith, nat_tests, f, less)))
hex_by c g l a true true false e f h = inr (λ high low x p q i.
    let same : l ≡ low = head_of l low _ _ (tail_of g high _ _ (tail_of c 120 _ _ i)) in
    let less : digit_value l < 16 = subst (λ z. digit_value z < 16) (sym same) q in
    absurd (grind (arith, nat_tests, h, less)))

hex_at : (a : List ℕ) → HexAt a
hex_at [] = inr (λ high low x p q i. absurd (cc))
hex_at (c ∷ []) = inr (λ high low x p q i. let e : [] ≡ high ∷ low ∷ x = tail_of c 120 _ _ i in absurd (cc))
hex_at (c ∷ g ∷ []) = inr (λ high low x p q i. let e : [] ≡ low ∷ x = tail_of g high _ _ (tail_of c 120 _ _ i) in absurd (cc))
hex_at (c ∷ g ∷ l ∷ a) = hex_by c g l a (c == 120) (nat_le (digit_value g) 15) (nat_le (digit_value l) 15) refl refl refl

escaped : (a : List ℕ) → Headed 34 a → Headed 92 a → HexAt a → ByteAt (92 ∷ a)
escaped a (inl (x, e)) s h =
    inl (34, x, quote refl (ap (λ (z : List ℕ). 92 ∷ z) e), let n = ap (λ (z : List ℕ). length z) e in omega (arith, n))
escaped a (inr q) (inl (x, e)) h =
    inl (92, x, backslash refl (ap (λ (z : List ℕ). 92 ∷ z) e), let n = ap (λ (z : List ℕ). length z) e in omega (arith, n))
escaped a (inr q) (inr s) (inl (high, low, x, g, l, e)) =
    inl (_, x, coded high low g l refl (ap (λ (z : List ℕ). 92 ∷ z) e), let n = ap (λ (z : List ℕ). length z) e in omega (arith, n))
escaped a (inr q) (inr s) (inr h) = inr (backslash_closed a q s h)

slashed : (c : ℕ) (a : List ℕ) (t : Bool) → is_literal c ≡ false → (c == 92) ≡ t → ByteAt (c ∷ a)
slashed c a true odd e = subst (λ z. ByteAt (z ∷ a)) (sym (eqb-true c 92 e)) (escaped a (headed 34 a) (headed 92 a) (hex_at a))
slashed c a false odd e = inr (odd_closed c a odd e)

byte_by : (c : ℕ) (a : List ℕ) (t : Bool) → is_literal c ≡ t → ByteAt (c ∷ a)
byte_by c a true e = inl (c, a, itself e refl, omega arith)
byte_by c a false e = slashed c a (c == 92) e refl

byte_at : (a : List ℕ) → ByteAt a
byte_at [] = inr empty_closed
byte_at (c ∷ a) = byte_by c a (is_literal c) refl

abbrev pub BytesAt : List ℕ → Type 0
BytesAt a = (s : List ℕ) × (last : List ℕ) × TextBytes s a last × Closed last

bytes_with : (a : List ℕ) → ((rest : List ℕ) → length rest < length a → BytesAt rest) → ByteAt a → BytesAt a
bytes_with a more (inl (b, rest, one, less)) = let (s, last, h, closed) = more rest less in (b ∷ s, last, (rest, one, h), closed)
bytes_with a more (inr closed) = ([], a, refl, closed)

bytes_within : (n : ℕ) (a : List ℕ) → length a ≤ n → BytesAt a
bytes_within zero [] h = ([], [], refl, empty_closed)
bytes_within zero (c ∷ a) h = absurd (omega (arith, h))
bytes_within (suc n) a h = bytes_with a (λ rest less. bytes_within n rest (omega (arith, h, less))) (byte_at a)

abbrev pub TextAt : List ℕ → Type 0
TextAt a = ((s : List ℕ) × (rest : List ℕ) × Token (a_text s) a rest) ⊎ ((s rest : List ℕ) → Token (a_text s) a rest → ⊥)

text_closing : (a start inside s last : List ℕ) → Blanks a start → StopsAt is_blank start → start ≡ 34 ∷ inside → TextBytes s inside last → Closed last
    → Headed 34 last → TextAt a
text_closing a start inside s last blanks stops e h closed (inl (rest, f)) = inl (s, rest, text_found a start inside last rest s blanks e h f)
text_closing a start inside s last blanks stops e h closed (inr other) = inr (text_unclosed a start inside s last blanks stops e h closed other)

text_by : (a start : List ℕ) → Blanks a start → StopsAt is_blank start → Headed 34 start → TextAt a
text_by a start blanks stops (inl (inside, e)) =
    let (s, last, h, closed) = bytes_within (length inside) inside (omega arith) in
    text_closing a start inside s last blanks stops e h closed (headed 34 last)
text_by a start blanks stops (inr other) = inr (text_unopened a start blanks stops other)

text_at : (a : List ℕ) → TextAt a
text_at a = let (start, blanks, stops) = skip a in text_by a start blanks stops (headed 34 start)

-- ---- values

abbrev pub ValueAt : ℕ → List ℕ → Type 0
ValueAt depth a =
    ((d : Datum) × (rest : List ℕ) × SpellsValue d a rest × (depth_of d ≤ depth) × (length rest < length a))
    ⊎ ((d : Datum) (rest : List ℕ) → depth_of d ≤ depth → SpellsValue d a rest → ⊥)

abbrev pub ValuesAt : ℕ → ℕ → List ℕ → Type 0
ValuesAt depth c a =
    ((ds : Data) × (rest : List ℕ) × Listed c ds a rest × (greatest_depth ds ≤ depth) × (length rest < length a))
    ⊎ ((ds : Data) (rest : List ℕ) → greatest_depth ds ≤ depth → Listed c ds a rest → ⊥)

-- values are read so far up to b, and none stands closed before them
record SoFar (n depth c : ℕ) (a : List ℕ) (ds : Data) (b : List ℕ) : Type 0 where
  closes : is_close c ≡ true
  mark : is_mark c ≡ true
  unclosed : (rest : List ℕ) → Token (a_mark c) a rest → ⊥
  before : Commas ds a b
  shallow : greatest_depth ds ≤ depth
  near : length b ≤ length a
  within : length b ≤ n

closed_with : (n depth c : ℕ) (a : List ℕ) (ds : Data) (b : List ℕ) → SoFar n depth c a ds b → (d : Datum) (after : List ℕ) → SpellsValue d b after
    → depth_of d ≤ depth → length after < length b → ((rest : List ℕ) → Token (a_mark 44) after rest → ⊥) → MarkAt c after → ValuesAt depth c a
closed_with n depth c a ds b h d after v low less no_comma (inl (rest, t)) =
    inl (
      with_last ds d,
      rest,
      (after, commas_end ds d a b after h.before v, t),
      depth_last ds d depth h.shallow low,
      let near = h.near in let short = token_shorter (a_mark c) after rest t in omega (arith, near, short, less),
    )
closed_with n depth c a ds b h d after v low less no_comma (inr no_close) =
    inr (no_mark ds d c depth a b after h.closes h.before h.unclosed v no_comma no_close)

more_with : (n depth c : ℕ) (a : List ℕ) (ds : Data) (b : List ℕ) → SoFar (suc n) depth c a ds b → (d : Datum) (after : List ℕ) → SpellsValue d b after
    → depth_of d ≤ depth → length after < length b
    → ((es : Data) (next : List ℕ) → SoFar n depth c a es next → ValuesAt depth c a) → MarkAt 44 after → ValuesAt depth c a
more_with n depth c a ds b h d after v low less more (inl (next, t)) =
    let short = token_shorter (a_mark 44) after next t in
    let near = h.near in
    let within = h.within in
    more (with_last ds d) next (record {
      closes = h.closes;
      mark = h.mark;
      unclosed = h.unclosed;
      before = commas_more ds d a b after next h.before v t;
      shallow = depth_last ds d depth h.shallow low;
      near = omega (arith, near, short, less);
      within = omega (arith, within, short, less);
    })
more_with n depth c a ds b h d after v low less more (inr no_comma) =
    closed_with (suc n) depth c a ds b h d after v low less no_comma (mark_at c after h.mark)

loop_with : (n depth c : ℕ) (a : List ℕ) (ds : Data) (b : List ℕ) → SoFar (suc n) depth c a ds b
    → ((es : Data) (next : List ℕ) → SoFar n depth c a es next → ValuesAt depth c a) → ValueAt depth b → ValuesAt depth c a
loop_with n depth c a ds b h more (inl (d, after, v, low, less)) = more_with n depth c a ds b h d after v low less more (mark_at 44 after refl)
loop_with n depth c a ds b h more (inr none) = inr (no_value ds c depth a b h.closes h.before h.unclosed none)

-- nothing stands where no byte is left
none_left : (depth : ℕ) (b : List ℕ) → length b ≤ 0 → (d : Datum) (rest : List ℕ) → depth_of d ≤ depth → SpellsValue d b rest → ⊥
none_left depth b h = no_kind b depth
    (λ z rest t. let short = token_shorter (a_number z) b rest t in absurd (omega (arith, h, short)))
    (λ s rest t. let short = token_shorter (a_text s) b rest t in absurd (omega (arith, h, short)))
    (not_enclosed 91 93 depth b (λ rest t. let short = token_shorter (a_mark 91) b rest t in absurd (omega (arith, h, short))))
    (not_enclosed 123 125 depth b (λ rest t. let short = token_shorter (a_mark 123) b rest t in absurd (omega (arith, h, short))))

loop_within : (m n depth c : ℕ) (a : List ℕ) → ((b : List ℕ) → length b ≤ n → ValueAt depth b) → m ≤ n → (ds : Data) (b : List ℕ)
    → SoFar m depth c a ds b → ValuesAt depth c a
loop_within zero n depth c a value few ds b h =
    inr (no_value ds c depth a b h.closes h.before h.unclosed (none_left depth b h.within))
loop_within (suc m) n depth c a value few ds b h =
    let within = h.within in
    loop_with m depth c a ds b h (λ es next g. loop_within m n depth c a value (omega (arith, few)) es next g) (value b (omega (arith, within, few)))

values_with : (n depth c : ℕ) (a : List ℕ) → ((b : List ℕ) → length b ≤ n → ValueAt depth b) → is_close c ≡ true → is_mark c ≡ true → length a ≤ n
    → MarkAt c a → ValuesAt depth c a
values_with n depth c a value h m few (inl (rest, t)) = inl (nothing_more, rest, (a, refl, t), omega arith, token_shorter (a_mark c) a rest t)
values_with n depth c a value h m few (inr unclosed) =
    loop_within n n depth c a value (omega arith) nothing_more a
    (record { closes = h; mark = m; unclosed = unclosed; before = refl; shallow = omega arith; near = omega arith; within = few })

values_at : (n depth c : ℕ) (a : List ℕ) → ((b : List ℕ) → length b ≤ n → ValueAt depth b) → is_close c ≡ true → is_mark c ≡ true → length a ≤ n
    → ValuesAt depth c a
values_at n depth c a value h m few = values_with n depth c a value h m few (mark_at c a m)

abbrev pub NestedAt : ℕ → ℕ → ℕ → List ℕ → Type 0
NestedAt opening closing depth a =
    ((ds : Data) × (rest : List ℕ) × Enclosed opening closing ds a rest × (1 + greatest_depth ds ≤ depth) × (length rest < length a))
    ⊎ ((ds : Data) (rest : List ℕ) → 1 + greatest_depth ds ≤ depth → Enclosed opening closing ds a rest → ⊥)

nested_with : (opening closing depth : ℕ) (a inside : List ℕ) → Token (a_mark opening) a inside → ValuesAt depth closing inside
    → NestedAt opening closing (suc depth) a
nested_with opening closing depth a inside t (inl (ds, rest, (last, v, c), low, less)) =
    inl (ds, rest, (inside, last, t, v, c), omega (arith, low), let short = token_shorter (a_mark opening) a inside t in omega (arith, short, less))
nested_with opening closing depth a inside t (inr none) = inr (not_inside opening closing (suc depth) depth a inside t (omega arith) none)

nested_by : (n opening closing depth : ℕ) (a : List ℕ) → ((e : ℕ) (b : List ℕ) → length b ≤ n → ValueAt e b) → is_close closing ≡ true
    → is_mark closing ≡ true → length a ≤ suc n → MarkAt opening a → NestedAt opening closing depth a
nested_by n opening closing depth a value h m few (inr none) = inr (not_enclosed opening closing depth a none)
nested_by n opening closing zero a value h m few (inl (inside, t)) = inr (λ ds rest low e. absurd (omega (arith, low)))
nested_by n opening closing (suc depth) a value h m few (inl (inside, t)) =
    let short = token_shorter (a_mark opening) a inside t in
    nested_with opening closing depth a inside t (values_at n depth closing inside (value depth) h m (omega (arith, few, short)))

value_by : (depth : ℕ) (a : List ℕ) → NumberAt a → TextAt a → NestedAt 91 93 depth a → NestedAt 123 125 depth a → ValueAt depth a
value_by depth a (inl (z, rest, t)) texts lists structs = inl (number z, rest, t, omega arith, token_shorter (a_number z) a rest t)
value_by depth a (inr numbers) (inl (s, rest, t)) lists structs = inl (string s, rest, t, omega arith, token_shorter (a_text s) a rest t)
value_by depth a (inr numbers) (inr texts) (inl (ds, rest, e, low, less)) structs = inl (elements ds, rest, e, low, less)
value_by depth a (inr numbers) (inr texts) (inr lists) (inl (ds, rest, e, low, less)) = inl (fields ds, rest, e, low, less)
value_by depth a (inr numbers) (inr texts) (inr lists) (inr structs) = inr (no_kind a depth numbers texts lists structs)

value_within : (n : ℕ) (depth : ℕ) (a : List ℕ) → length a ≤ n → ValueAt depth a
value_within zero depth a h = inr (none_left depth a h)
value_within (suc n) depth a h =
    value_by depth a (number_at a) (text_at a)
    (nested_by n 91 93 depth a (value_within n) refl refl h (mark_at 91 a refl))
    (nested_by n 123 125 depth a (value_within n) refl refl h (mark_at 123 a refl))

-- ---- calls

abbrev pub WordAt : List ℕ → Type 0
WordAt a =
    ((word : List ℕ) × (after : List ℕ) × (is_name word ≡ true) × (a ≡ word ++ after) × StopsAt is_word_byte after)
    ⊎ ((word rest : List ℕ) → is_name word ≡ true → StopsAt is_word_byte rest → a ≡ word ++ rest → ⊥)

word_by : (a : List ℕ) (t : Bool) → is_name (take (prefix_len is_word_byte a) a) ≡ t → WordAt a
word_by a true e =
    inl (take (prefix_len is_word_byte a) a, drop (prefix_len is_word_byte a) a, e, sym (take-append-drop (prefix_len is_word_byte a) a), run_stops is_word_byte a)
word_by a false e = inr (λ word rest h stops split.
    let all = take-append-drop (prefix_len is_word_byte a) a ∙ split in
    let same = (run_once is_word_byte (take (prefix_len is_word_byte a) a) word (drop (prefix_len is_word_byte a) a) rest
    (run_passes is_word_byte a) (word_all word h) (run_stops is_word_byte a) stops all).0 in
    absurd (true≢false (sym h ∙ (ap is_name (sym same) ∙ e))))

-- whether a text spells a call
abbrev pub CallAt : List ℕ → Type 0
CallAt a =
    ((name : List ℕ) × (values : List Datum) × SpellsCall a name values)
    ⊎ ((name : List ℕ) (values : List Datum) → SpellsCall a name values → ⊥)

-- values as a list
listed : (ds : Data) → (values : List Datum) × (data_from values ≡ ds)
listed nothing_more = ([], refl)
listed (also d ds) = let (values, e) = listed ds in (d ∷ values, ap (also d) e)

call_ended : (a start word after inside end left : List ℕ) (values : List Datum) → Blanks a start → StopsAt is_blank start → is_name word ≡ true
    → start ≡ word ++ after → StopsAt is_word_byte after → Token (a_mark 40) after inside → Listed 41 (data_from values) inside end
    → greatest_depth (data_from values) ≤ 20 → Blanks end left → StopsAt is_blank left → CallAt a
call_ended a start word after inside end [] values blanks stops h split ends o l low skipped dark =
    inl (word, values, spelled_call a start word after inside end [] word values blanks h split o l low skipped refl refl)
call_ended a start word after inside end (b ∷ left) values blanks stops h split ends o l low skipped dark =
    inr (not_ended a start word after inside end (b ∷ left) (data_from values) blanks stops h split ends o l skipped dark (λ e. absurd (omega (arith, e))))

call_valued : (a start word after inside : List ℕ) → Blanks a start → StopsAt is_blank start → is_name word ≡ true → start ≡ word ++ after
    → StopsAt is_word_byte after → Token (a_mark 40) after inside → ValuesAt 20 41 inside → CallAt a
call_valued a start word after inside blanks stops h split ends o (inl (ds, end, l, low, less)) =
    let (values, e) = listed ds in
    let (left, skipped, dark) = skip end in
    call_ended a start word after inside end left values blanks stops h split ends o (subst (λ x. Listed 41 x inside end) (sym e) l)
    (subst (λ x. greatest_depth x ≤ 20) (sym e) low) skipped dark
call_valued a start word after inside blanks stops h split ends o (inr none) = inr (no_arguments a start word after inside blanks stops h split ends o none)

call_opened : (a start word after : List ℕ) → Blanks a start → StopsAt is_blank start → is_name word ≡ true → start ≡ word ++ after
    → StopsAt is_word_byte after → MarkAt 40 after → CallAt a
call_opened a start word after blanks stops h split ends (inl (inside, t)) =
    call_valued a start word after inside blanks stops h split ends t
    (values_at (length inside) 20 41 inside (value_within (length inside) 20) refl refl (omega arith))
call_opened a start word after blanks stops h split ends (inr none) = inr (no_open a start word after blanks stops h split ends none)

call_by : (a start : List ℕ) → Blanks a start → StopsAt is_blank start → WordAt start → CallAt a
call_by a start blanks stops (inl (word, after, h, split, ends)) = call_opened a start word after blanks stops h split ends (mark_at 40 after refl)
call_by a start blanks stops (inr none) = inr (no_word a start blanks stops none)

pub call_at : (a : List ℕ) → CallAt a
call_at a = let (start, blanks, stops) = skip a in call_by a start blanks stops (word_by start (is_name (take (prefix_len is_word_byte start) start)) refl)
