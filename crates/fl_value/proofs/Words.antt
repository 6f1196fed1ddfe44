-- A call's name, and that its text has one reading.
use Rattle.std.proofs.Common.{◌≡◌, ◌≤◌, ◌<◌, ◌+◌, ◌-◌, inl, inr, ℕ, suc, cond, List, [], ◌∷◌, ◌++◌, length, take, drop, get_or, arith, refl, ap, sym, subst, ◌∙◌, true, false, length-drop}
use Rattle.std.proofs.lemmas.List.{take_all, take-append-drop, length-take}
use Rattle.std.proofs.lemmas.List.Folds.{length-prefix_len}
use Rattle.std.specs.List.{list_all, prefix_len}
use Rattle.std.specs.Prelude.{nat_le}
use Rattle.std.specs.Cmp.{first_so, second_so}
use Rattle.std.proofs.lemmas.Bool.{leb-true, le-leb}
use Rattle.fl_value_data.specs.Value.{Datum, Data, data_from}
use Rattle.fl_lex.specs.Words.{is_letter, is_word_byte, is_word, is_name}
use Rattle.fl_lex.proofs.Classes.{both}
use Rattle.fl_value.specs.CallText.{is_blank, StopsAt, Blanks, Token, a_mark, SpellsCall, SpellsValues, Listed, greatest_depth}
use Rattle.fl_value.proofs.Scan.{run_once, run_passes, run_stops, one_more}
use Rattle.fl_value.proofs.Once.{not_blank, blanks_once, blank_cases, token_once}
use Rattle.fl_value.proofs.Nested.{values_once}

letter_in_word : (b : ℕ) → is_letter b ≡ true → is_word_byte b ≡ true
letter_in_word b h = rw h refl

word_of : (w : List ℕ) → is_name w ≡ true → is_word w ≡ true
word_of w h = second_so (nat_le (length w) 64) (is_word w) h

pub word_all : (w : List ℕ) → is_name w ≡ true → list_all is_word_byte w ≡ true
word_all [] h = absurd (cc)
word_all (b ∷ bs) h =
    let w = word_of (b ∷ bs) h in
    both (is_word_byte b) (list_all is_word_byte bs) (letter_in_word b (first_so (is_letter b) (list_all is_word_byte bs) w))
    (second_so (is_letter b) (list_all is_word_byte bs) w)

pub word_stops : (w x : List ℕ) → is_name w ≡ true → StopsAt is_blank (w ++ x)
word_stops [] x h = absurd (cc)
word_stops (b ∷ bs) x h =
    not_blank is_letter b refl refl (first_so (is_letter b) (list_all is_word_byte bs) (word_of (b ∷ bs) h))

pub word_short : (w : List ℕ) → is_name w ≡ true → length w ≤ 64
word_short w h = leb-true (length w) 64 (first_so (nat_le (length w) 64) (is_word w) h)

-- the longest run of a word's bytes, where a letter begins it, is a word
counted_word : (b : ℕ) (ys : List ℕ) (n : ℕ) → is_letter b ≡ true → n ≡ prefix_len is_word_byte (b ∷ ys) → n ≤ 64 → is_name (take n (b ∷ ys)) ≡ true
counted_word b ys n letter e few =
    let k = prefix_len is_word_byte ys in
    let more : prefix_len is_word_byte (b ∷ ys) ≡ suc k = ap (λ t. cond t (1 + k) 0) (letter_in_word b letter) ∙ one_more k in
    let count : n ≡ suc k = e ∙ more in
    let word : is_word (b ∷ take k ys) ≡ true = both (is_letter b) (list_all is_word_byte (take k ys)) letter (run_passes is_word_byte ys) in
    let short : length (b ∷ take k ys) ≤ 64 = omega (arith, length-take k ys, count, few) in
    subst (λ m. is_name (take m (b ∷ ys)) ≡ true) (sym count)
    (both (nat_le (length (b ∷ take k ys)) 64) (is_word (b ∷ take k ys)) (le-leb (length (b ∷ take k ys)) 64 short) word)

pub word_counted : (xs : List ℕ) (n : ℕ) → 1 ≤ length xs → is_letter (get_or xs 0 0) ≡ true → n ≡ prefix_len is_word_byte xs → n ≤ 64 → is_name (take n xs) ≡ true
word_counted [] n some letter e few = absurd (omega arith)
word_counted (b ∷ ys) n some letter e few = counted_word b ys n letter e few

pub word_rest : (xs : List ℕ) (n : ℕ) → n ≡ prefix_len is_word_byte xs → StopsAt is_word_byte (take (length xs - n) (drop n xs))
word_rest xs n e =
    let rest : take (length xs - n) (drop n xs) ≡ drop n xs = take_all _ (drop n xs) (omega (arith, length-drop n xs)) in
    subst (StopsAt is_word_byte) (sym rest) (subst (λ m. StopsAt is_word_byte (drop m xs)) (sym e) (run_stops is_word_byte xs))

pub too_long : (xs : List ℕ) (n : ℕ) → n ≡ prefix_len is_word_byte xs → 64 < n → (word rest : List ℕ) → is_name word ≡ true → StopsAt is_word_byte rest → xs ≡ word ++ rest → ⊥
too_long xs n e long word rest h stops split =
    let k = prefix_len is_word_byte xs in
    let r = run_once is_word_byte (take k xs) word (drop k xs) rest (run_passes is_word_byte xs) (word_all word h) (run_stops is_word_byte xs) stops (take-append-drop k xs ∙ split) in
    omega (arith, ap length r.0, length-prefix_len is_word_byte xs, word_short word h, e, long)

blank_no_word : (b : ℕ) → is_blank b ≡ true → is_word_byte b ≡ false
blank_no_word b h = elim (blank_cases b h) [ inl e ↦ ap is_word_byte e | inr e ↦ ap is_word_byte e ]

-- a name ends where its opening parenthesis, or a blank before it, stands
opens_apart : (blanks after start inside : List ℕ) → list_all is_blank blanks ≡ true → after ≡ blanks ++ start → start ≡ 40 ∷ inside → StopsAt is_word_byte after
opens_apart [] after start inside all split e = subst (StopsAt is_word_byte) (sym (split ∙ e)) refl
opens_apart (b ∷ bs) after start inside all split e = subst (StopsAt is_word_byte) (sym split) (blank_no_word b (first_so (is_blank b) (list_all is_blank bs) all))

pub name_ends : (after inside : List ℕ) → Token (a_mark 40) after inside → StopsAt is_word_byte after
name_ends after inside (start, blanks, at) = opens_apart blanks.blanks after start inside blanks.all blanks.split at.1

-- where a call's name begins
at_word : (bytes start name : List ℕ) (values : List Datum) → Blanks bytes start → StopsAt is_blank start → (s : SpellsCall bytes name values) → start ≡ name ++ s.after
at_word bytes start name values blanks stops s =
    blanks_once bytes start s.start blanks stops s.before (subst (StopsAt is_blank) (sym s.named) (word_stops name s.after s.word)) ∙ s.named

pub no_word : (bytes start : List ℕ) → Blanks bytes start → StopsAt is_blank start
    → ((word rest : List ℕ) → is_name word ≡ true → StopsAt is_word_byte rest → start ≡ word ++ rest → ⊥)
    → (name : List ℕ) (values : List Datum) → SpellsCall bytes name values → ⊥
no_word bytes start blanks stops none name values s = none name s.after s.word (name_ends s.after s.inside s.opens) (at_word bytes start name values blanks stops s)

pub same_name : (bytes start word after name : List ℕ) (values : List Datum) → Blanks bytes start → StopsAt is_blank start → is_name word ≡ true → start ≡ word ++ after → StopsAt is_word_byte after → (s : SpellsCall bytes name values) → (word ≡ name) × (after ≡ s.after)
same_name bytes start word after name values blanks stops h split ends s =
    run_once is_word_byte word name after s.after (word_all word h) (word_all name s.word) ends (name_ends s.after s.inside s.opens) (sym split ∙ at_word bytes start name values blanks stops s)

pub no_open : (bytes start word after : List ℕ) → Blanks bytes start → StopsAt is_blank start → is_name word ≡ true → start ≡ word ++ after → StopsAt is_word_byte after
    → ((rest : List ℕ) → Token (a_mark 40) after rest → ⊥)
    → (name : List ℕ) (values : List Datum) → SpellsCall bytes name values → ⊥
no_open bytes start word after blanks stops h split ends none name values s =
    let r = same_name bytes start word after name values blanks stops h split ends s in
    none s.inside (subst (λ a. Token (a_mark 40) a s.inside) (sym r.1) s.opens)

pub same_inside : (bytes start word after inside name : List ℕ) (values : List Datum) → Blanks bytes start → StopsAt is_blank start → is_name word ≡ true → start ≡ word ++ after → StopsAt is_word_byte after → Token (a_mark 40) after inside → (s : SpellsCall bytes name values) → inside ≡ s.inside
same_inside bytes start word after inside name values blanks stops h split ends o s =
    let r = same_name bytes start word after name values blanks stops h split ends s in
    (token_once (a_mark 40) (a_mark 40) after inside s.inside o (subst (λ a. Token (a_mark 40) a s.inside) (sym r.1) s.opens)).1

pub no_arguments : (bytes start word after inside : List ℕ) → Blanks bytes start → StopsAt is_blank start → is_name word ≡ true → start ≡ word ++ after → StopsAt is_word_byte after → Token (a_mark 40) after inside
    → ((ds : Data) (rest : List ℕ) → greatest_depth ds ≤ 20 → Listed 41 ds inside rest → ⊥)
    → (name : List ℕ) (values : List Datum) → SpellsCall bytes name values → ⊥
no_arguments bytes start word after inside blanks stops h split ends o none name values s =
    let same = same_inside bytes start word after inside name values blanks stops h split ends o s in
    none (data_from values) s.end s.nested (s.last, subst (λ a. SpellsValues (data_from values) a s.last) (sym same) s.spelled, s.closes)

pub not_ended : (bytes start word after inside end left : List ℕ) (ds : Data) → Blanks bytes start → StopsAt is_blank start → is_name word ≡ true → start ≡ word ++ after → StopsAt is_word_byte after → Token (a_mark 40) after inside
    → Listed 41 ds inside end → Blanks end left → StopsAt is_blank left → (length left ≡ 0 → ⊥)
    → (name : List ℕ) (values : List Datum) → SpellsCall bytes name values → ⊥
not_ended bytes start word after inside end left ds blanks stops h split ends o (last, v, t) skipped dark some name values s =
    let same = same_inside bytes start word after inside name values blanks stops h split ends o s in
    let r = values_once ds (data_from values) 41 inside last s.last end s.end refl v t (subst (λ a. SpellsValues (data_from values) a s.last) (sym same) s.spelled) s.closes in
    let none : left ≡ [] = blanks_once end left [] skipped dark (subst (λ a. Blanks a []) (sym r.1) s.ends) tt in
    some (ap length none)

data_same : (ds es : List Datum) → data_from ds ≡ data_from es → ds ≡ es
data_same [] [] e = refl
data_same [] (d ∷ ds) e = absurd (cc)
data_same (d ∷ ds) [] e = absurd (cc)
data_same (d ∷ ds) (f ∷ es) e =
    let one : d ≡ f = cc in
    let rest : data_from ds ≡ data_from es = cc in
    let others = data_same ds es rest in
    cc

pub call_once : (bytes one other : List ℕ) (values others : List Datum) → SpellsCall bytes one values → SpellsCall bytes other others → (one ≡ other) × (values ≡ others)
call_once bytes one other values others s r =
    let dark : StopsAt is_blank s.start = subst (StopsAt is_blank) (sym s.named) (word_stops one s.after s.word) in
    let ends = name_ends s.after s.inside s.opens in
    let names = same_name bytes s.start one s.after other others s.before dark s.word s.named ends r in
    let same = same_inside bytes s.start one s.after s.inside other others s.before dark s.word s.named ends s.opens r in
    let p = values_once (data_from values) (data_from others) 41 s.inside s.last r.last s.end r.end refl s.spelled s.closes (subst (λ a. SpellsValues (data_from others) a r.last) (sym same) r.spelled) r.closes in
    (names.0, data_same values others p.0)

no_more : (left : List ℕ) → length left ≡ 0 → left ≡ []
no_more [] e = refl
no_more (b ∷ left) e = absurd (omega (arith, e))

-- a call was read: its name, a parenthesis, values up to the closing one, and blanks
pub spelled_call : (bytes start word after inside end left name : List ℕ) (values : List Datum) → Blanks bytes start → is_name word ≡ true
    → start ≡ word ++ after → Token (a_mark 40) after inside → Listed 41 (data_from values) inside end → greatest_depth (data_from values) ≤ 20
    → Blanks end left → length left ≡ 0 → name ≡ word → SpellsCall bytes name values
spelled_call bytes start word after inside end left name values before named split o (last, v, t) nested ends none e =
    subst (λ n. SpellsCall bytes n values) (sym e) (record {
      start = start;
      after = after;
      inside = inside;
      last = last;
      end = end;
      before = before;
      word = named;
      named = split;
      opens = o;
      spelled = v;
      closes = t;
      ends = subst (Blanks end) (no_more left none) ends;
      nested = nested;
    })
