-- How many bytes the item at the beginning of a text has.
use Rattle.std.proofs.Common.{◌≡◌, ℕ, zero, suc, ◌+◌, ◌-◌, ◌*◌, ◌^◌, ◌<◌, ◌≤◌, ◌==◌, ◌&&◌, ◌||◌, nat_le, eqb-true, inr, Bool, true, false, cond, List, [], ◌∷◌, ◌++◌, length, get_or, take, drop, sym, refl, ap, ◌∙◌, subst, arith, add-one, add-zero, drop-cons, take-append-drop}
use Rattle.std.specs.List.{prefix_len}
use Rattle.std.proofs.lemmas.List.Sums.{AllPass-from_list_all}
use Rattle.std.proofs.Math.Nat.{pow-succ', le-mul_of_pos_right}
use Rattle.std.proofs.Math.Seq.{drop-append_seam, take-append_seam}
use Rattle.std.proofs.lemmas.List.{length-append, length-take-le, length-drop, get_or-drop, get_or-take}
use Rattle.std.proofs.lemmas.Bool.Decides.{nat_tests}
use Rattle.std.proofs.lemmas.List.Folds.{length-prefix_len}
use Rattle.fl_lex.specs.Spelling.{class_of, mark_class, is_on_line, is_described, decimal_value, AllBytes, Has, Item, gap, token, Begins}
use Rattle.fl_lex.specs.Words.{is_letter, is_word_byte, is_digit}
use Rattle.fl_lex.proofs.Classes.{in_number, letter_of, letter_in_word, digit_is}
use Rattle.fl_lex.specs.Outcome.{Stands, no_token, open_comment, open_description, long_word, large_number, EndsLine, BeginsWith}
use Rattle.fl_lex.specs.Item.{FirstIs, Cuts, ItemFits}
use Rattle.fl_lex.specs.declared.token.TokenKind.TheVariants as kinds
use Rattle.fl_lex.specs.declared.token.Mark.{Mark}
use Rattle.fl_lex.specs.declared.class.ByteClass.{ByteClass}
use Rattle.fl_lex.specs.declared.class.ByteClass.TheVariants as classes
use Rattle.fl_lex.proofs.Runs.{Stops, run_all, run_stops}
use Rattle.fl_lex.proofs.Items.{word_begins, number_begins, mark_begins, blank_begins, description_begins, line_comment_begins, block_comment_begins, nonempty}

pub cuts : (text : List ℕ) (item : Item) (bytes rest : List ℕ) (n : ℕ) → Begins text item bytes rest → ItemFits item bytes → n ≡ length bytes → Cuts text item n
cuts text item bytes rest n begins fits e =
    let whole : length text ≡ length bytes + length rest = ap length (sym begins.joined) ∙ length-append bytes rest in
    let some : 0 < length bytes = nonempty item bytes begins.is_item in
    let prefix : take n text ≡ bytes = ap (λ (t : List ℕ). take n t) (sym begins.joined) ∙ ap (λ k. take k (bytes ++ rest)) e ∙ take-append_seam bytes rest in
    let back : drop n text ≡ rest = ap (λ (t : List ℕ). drop n t) (sym begins.joined) ∙ ap (λ k. drop k (bytes ++ rest)) e ∙ drop-append_seam bytes rest in
    record {
      within = omega (arith, whole, e);
      nonempty = omega (arith, some, e);
      begins = subst (λ (b : List ℕ). Begins text item b (drop n text)) (sym prefix) (subst (λ (r : List ℕ). Begins text item bytes r) (sym back) begins);
      fits = subst (λ (b : List ℕ). ItemFits item b) (sym prefix) fits;
    }

mark_is_no_quote : (byte : ℕ) → mark_class byte ≡ classes.Quote → ⊥
unfolding mark_class
mark_is_no_quote byte e = grind arith

mark_is_no_slash : (byte : ℕ) → mark_class byte ≡ classes.Slash → ⊥
unfolding mark_class
mark_is_no_slash byte e = grind arith

quote_by : (letter digit blank quote slash : Bool) (mark : ByteClass) → cond letter classes.Letter (cond digit classes.Digit (cond blank classes.Blank (cond quote classes.Quote (cond slash classes.Slash mark)))) ≡ classes.Quote → (mark ≡ classes.Quote → ⊥) → quote ≡ true
quote_by true digit blank quote slash mark e none = cc
quote_by false true blank quote slash mark e none = cc
quote_by false false true quote slash mark e none = cc
quote_by false false false true slash mark e none = refl
quote_by false false false false true mark e none = cc
quote_by false false false false false mark e none = absurd (none e)

slash_by : (letter digit blank quote slash : Bool) (mark : ByteClass) → cond letter classes.Letter (cond digit classes.Digit (cond blank classes.Blank (cond quote classes.Quote (cond slash classes.Slash mark)))) ≡ classes.Slash → (mark ≡ classes.Slash → ⊥) → slash ≡ true
slash_by true digit blank quote slash mark e none = cc
slash_by false true blank quote slash mark e none = cc
slash_by false false true quote slash mark e none = cc
slash_by false false false true slash mark e none = cc
slash_by false false false false true mark e none = refl
slash_by false false false false false mark e none = absurd (none e)

pub quote_is : (byte : ℕ) → class_of byte ≡ classes.Quote → byte ≡ 34
unfolding class_of
quote_is byte e = eqb-true byte 34 (quote_by (is_letter byte) (is_digit byte) ((nat_le 9 byte && nat_le byte 13) || (byte == 32)) (byte == 34) (byte == 47) (mark_class byte) e (mark_is_no_quote byte))

pub slash_is : (byte : ℕ) → class_of byte ≡ classes.Slash → byte ≡ 47
unfolding class_of
slash_is byte e = eqb-true byte 47 (slash_by (is_letter byte) (is_digit byte) ((nat_le 9 byte && nat_le byte 13) || (byte == 32)) (byte == 34) (byte == 47) (mark_class byte) e (mark_is_no_slash byte))

in_digits : (byte : ℕ) → is_digit byte ≡ true → (48 ≤ byte) × (byte ≤ 57)
in_digits byte e = grind (arith, nat_tests)

pub digit_bounds : (byte : ℕ) → is_digit byte ≡ true → (48 ≤ byte) × (byte ≤ 57)
digit_bounds byte e = in_digits byte e

yes_one : (b : Bool) (n : ℕ) → b ≡ true → cond b (1 + n) 0 ≡ suc n
yes_one b n passes = rw passes (omega arith)

-- a word

word_run : (byte : ℕ) (tail : List ℕ) → class_of byte ≡ classes.Letter → Begins (byte ∷ tail) (token kinds.Word) (byte ∷ take (prefix_len is_word_byte tail) tail) (drop (prefix_len is_word_byte tail) tail)
word_run byte tail first =
    let n : ℕ = prefix_len is_word_byte tail in
    subst (λ (l : List ℕ). Begins (byte ∷ l) (token kinds.Word) (byte ∷ take n tail) (drop n tail)) (take-append-drop n tail)
    (word_begins byte (take n tail) (drop n tail) first (run_all is_word_byte tail) (run_stops is_word_byte tail))

word_length : (byte : ℕ) (tail : List ℕ) → class_of byte ≡ classes.Letter → prefix_len is_word_byte (byte ∷ tail) ≡ length (byte ∷ take (prefix_len is_word_byte tail) tail)
word_length byte tail first =
    let passes = letter_in_word byte (letter_of byte first) in
    yes_one (is_word_byte byte) (prefix_len is_word_byte tail) passes ∙ ap suc (sym (length-prefix_len is_word_byte tail))

pub word_cuts : (text : List ℕ) (n : ℕ) → FirstIs classes.Letter text → n ≡ prefix_len is_word_byte text → n ≤ 64 → Cuts text (token kinds.Word) n
word_cuts [] n first e few = absurd first
word_cuts (byte ∷ tail) n first e few =
    let long : n ≡ length (byte ∷ take (prefix_len is_word_byte tail) tail) = e ∙ word_length byte tail first in
    cuts (byte ∷ tail) (token kinds.Word) _ _ n (word_run byte tail first) (omega (arith, long)) long

pub word_too_long : (text : List ℕ) (n : ℕ) → FirstIs classes.Letter text → n ≡ prefix_len is_word_byte text → 64 < n → Stands long_word text
word_too_long [] n first e many = absurd first
word_too_long (byte ∷ tail) n first e many =
    let long : n ≡ length (byte ∷ take (prefix_len is_word_byte tail) tail) = e ∙ word_length byte tail first in
    (byte ∷ take (prefix_len is_word_byte tail) tail, drop (prefix_len is_word_byte tail) tail, word_run byte tail first, omega (arith, long))

-- a number

digits_some : (text : List ℕ) → FirstIs classes.Digit text → 0 < length (take (prefix_len is_digit text) text)
digits_some [] first = absurd first
digits_some (byte ∷ tail) first =
    let passes = digit_is byte ∙ ap in_number first in
    omega (arith, length-prefix_len is_digit (byte ∷ tail), yes_one (is_digit byte) (prefix_len is_digit tail) passes)

number_run : (text : List ℕ) → FirstIs classes.Digit text → Begins text (token (kinds.Number (decimal_value (take (prefix_len is_digit text) text)))) (take (prefix_len is_digit text) text) (drop (prefix_len is_digit text) text)
number_run text first =
    let n : ℕ = prefix_len is_digit text in
    subst (λ (l : List ℕ). Begins l (token (kinds.Number (decimal_value (take n text)))) (take n text) (drop n text)) (take-append-drop n text)
    (number_begins (take n text) (drop n text) (digits_some text first) (run_all is_digit text) (run_stops is_digit text))

pub number_all : (text : List ℕ) (n : ℕ) → n ≡ prefix_len is_digit text → AllBytes is_digit (take n text)
number_all text n e = subst (λ k. AllBytes is_digit (take k text)) (sym e) (run_all is_digit text)

number_cut : (text : List ℕ) (n : ℕ) → FirstIs classes.Digit text → n ≡ prefix_len is_digit text → decimal_value (take n text) ≤ 1000000 → Cuts text (token (kinds.Number (decimal_value (take n text)))) n
number_cut text n first e few =
    subst (λ k. decimal_value (take k text) ≤ 1000000 → Cuts text (token (kinds.Number (decimal_value (take k text)))) k) (sym e)
    (λ small. cuts text _ _ _ (prefix_len is_digit text) (number_run text first) small (sym (length-prefix_len is_digit text)))
    few

pub number_cuts : (text : List ℕ) (n value : ℕ) → FirstIs classes.Digit text → n ≡ prefix_len is_digit text → (decimal_value (take n text) ≤ 1000000) × (value ≡ decimal_value (take n text)) → Cuts text (token (kinds.Number value)) n
number_cuts text n value first e (few, same) = subst (λ v. Cuts text (token (kinds.Number v)) n) (sym same) (number_cut text n first e few)

pub number_too_large : (text : List ℕ) (n : ℕ) → FirstIs classes.Digit text → n ≡ prefix_len is_digit text → (decimal_value (take n text) ≤ 1000000 → ⊥) → Stands large_number text
number_too_large text n first e large =
    let more : 1000000 < decimal_value (take n text) = omega (arith, large) in
    (take (prefix_len is_digit text) text, drop (prefix_len is_digit text) text, decimal_value (take (prefix_len is_digit text) text), number_run text first, subst (λ k. 1000000 < decimal_value (take k text)) e more)

-- the value of digits, one after another

pub digit_at : (digits : List ℕ) (i : ℕ) → i < length digits → AllBytes is_digit digits → (48 ≤ get_or digits i 0) × (get_or digits i 0 ≤ 57)
digit_at digits i within all = digit_bounds (get_or digits i 0) (AllPass-from_list_all is_digit digits all i 0 within)

pub one_more_digit : (digits : List ℕ) (i value digit total : ℕ) → i < length digits → digit ≡ get_or digits i 0 - 48
    → value * 10 ^ length (drop i digits) + decimal_value (drop i digits) ≡ total
    → (value * 10 + digit) * 10 ^ length (drop (i + 1) digits) + decimal_value (drop (i + 1) digits) ≡ total
one_more_digit digits i value digit total within is whole =
    let back : drop i digits ≡ get_or digits i 0 ∷ drop (suc i) digits = drop-cons digits i 0 within in
    let more : List ℕ = drop (suc i) digits in
    let power : ℕ = 10 ^ length more in
    let longer : 10 ^ suc (length more) ≡ 10 * power = pow-succ' 10 (length more) in
    let before : value * 10 ^ suc (length more) + ((get_or digits i 0 - 48) * power + decimal_value more) ≡ total =
    subst (λ (l : List ℕ). value * 10 ^ length l + decimal_value l ≡ total) back whole in
    let flat : value * (10 * power) + (digit * power + decimal_value more) ≡ total =
    ap (λ p. value * p + (digit * power + decimal_value more)) (sym longer) ∙ ap (λ d. value * 10 ^ suc (length more) + (d * power + decimal_value more)) is ∙ before in
    rw add-one (regroup value digit power (decimal_value more) total flat)
  where
    regroup : (v d p r t : ℕ) → v * (10 * p) + (d * p + r) ≡ t → (v * 10 + d) * p + r ≡ t
    regroup v d p r t e = omega (arith, e)

power_some : (n : ℕ) → 0 < 10 ^ n
power_some zero = omega arith
power_some (suc n) = rw (pow-succ' 10 n) (let some : 0 < 10 ^ n = power_some n in omega (arith, some))

pub large_so_far : (value count rest total : ℕ) → 1000000 < value → value * 10 ^ count + rest ≡ total → total ≤ 1000000 → ⊥
large_so_far value count rest total large whole small =
    let grows : value ≤ value * 10 ^ count = le-mul_of_pos_right value (power_some count) in
    let product : ℕ = value * 10 ^ count in
    let still : value ≤ product = grows in
    let sum : product + rest ≡ total = whole in
    omega (arith, still, sum, large, small)

-- a description

described_parts : (tail : List ℕ) (n : ℕ) → n < length tail → get_or tail n 0 ≡ 34 → take n tail ++ (34 ∷ drop (suc n) tail) ≡ tail
described_parts tail n within last =
    let back : drop n tail ≡ 34 ∷ drop (suc n) tail = drop-cons tail n 0 within ∙ ap (λ b. b ∷ drop (suc n) tail) last in
    ap (λ (l : List ℕ). take n tail ++ l) (sym back) ∙ take-append-drop n tail

described_run : (byte : ℕ) (tail : List ℕ) (n : ℕ) → class_of byte ≡ classes.Quote → n ≡ prefix_len is_described tail → n < length tail → get_or tail n 0 ≡ 34 → Begins (byte ∷ tail) (token kinds.Description) (34 ∷ take n tail ++ (34 ∷ [])) (drop (suc n) tail)
described_run byte tail n first e within last =
    let inside : AllBytes is_described (take n tail) = subst (λ k. AllBytes is_described (take k tail)) (sym e) (run_all is_described tail) in
    let whole : (34 ∷ take n tail ++ (34 ∷ drop (suc n) tail)) ≡ byte ∷ tail = ap (λ (l : List ℕ). 34 ∷ l) (described_parts tail n within last) ∙ ap (λ b. b ∷ tail) (sym (quote_is byte first)) in
    subst (λ (l : List ℕ). Begins l (token kinds.Description) (34 ∷ take n tail ++ (34 ∷ [])) (drop (suc n) tail)) whole
    (description_begins (take n tail) (drop (suc n) tail) inside)

described_cut : (text : List ℕ) (n : ℕ) → FirstIs classes.Quote text → n ≡ prefix_len is_described (drop 1 text) → n < length (drop 1 text) → get_or (drop 1 text) n 0 ≡ 34 → Cuts text (token kinds.Description) (n + 2)
described_cut [] n first e within last = absurd first
described_cut (byte ∷ tail) n first e within last =
    cuts (byte ∷ tail) (token kinds.Description) (34 ∷ take n tail ++ (34 ∷ [])) (drop (suc n) tail) (n + 2) (described_run byte tail n first e within last) tt
    (let prefix : length (take n tail) ≡ n = length-take-le n tail (omega arith) in omega (arith, prefix, length-append (take n tail) (34 ∷ [])))

described_end : (rest : List ℕ) → Stops is_described rest → (0 < length rest → get_or rest 0 0 ≡ 34 → ⊥) → EndsLine rest
described_end [] stops differs = tt
described_end (byte ∷ rest) stops differs = line_feed byte stops (differs (omega arith))
  where
    line_feed : (b : ℕ) → is_described b ≡ false → (b ≡ 34 → ⊥) → b ≡ 10
    line_feed b e no_quote = grind (arith, nat_tests)

described_left : (text : List ℕ) (n : ℕ) → FirstIs classes.Quote text → n ≡ prefix_len is_described (drop 1 text) → (n < length (drop 1 text) → get_or (drop 1 text) n 0 ≡ 34 → ⊥) → Stands open_description text
described_left [] n first e differs = absurd first
described_left (byte ∷ tail) n first e differs =
    let inside : AllBytes is_described (take n tail) = subst (λ k. AllBytes is_described (take k tail)) (sym e) (run_all is_described tail) in
    let stops : Stops is_described (drop n tail) = subst (λ k. Stops is_described (drop k tail)) (sym e) (run_stops is_described tail) in
    let whole : byte ∷ tail ≡ 34 ∷ (take n tail ++ drop n tail) = ap (λ b. b ∷ tail) (quote_is byte first) ∙ ap (λ (l : List ℕ). 34 ∷ l) (sym (take-append-drop n tail)) in
    let first_left : get_or (drop n tail) 0 0 ≡ get_or tail n 0 = get_or-drop n tail 0 0 ∙ ap (λ k. get_or tail k 0) (add-zero n) in
    (take n tail, drop n tail, whole, inside, described_end (drop n tail) stops (λ some last. differs (omega (arith, some, length-drop n tail)) (sym first_left ∙ last)))

pub described_cuts : (text more : List ℕ) (n : ℕ) → more ≡ drop 1 text → FirstIs classes.Quote text → n ≡ prefix_len is_described more → n < length more → get_or more n 0 ≡ 34 → Cuts text (token kinds.Description) (n + 2)
described_cuts text more n e first count within last =
    described_cut text n first (subst (λ (m : List ℕ). n ≡ prefix_len is_described m) e count) (subst (λ (m : List ℕ). n < length m) e within) (subst (λ (m : List ℕ). get_or m n 0 ≡ 34) e last)

pub described_open : (text more : List ℕ) (n : ℕ) → more ≡ drop 1 text → FirstIs classes.Quote text → n ≡ prefix_len is_described more → (n < length more → get_or more n 0 ≡ 34 → ⊥) → Stands open_description text
described_open text more n e first count differs =
    described_left text n first (subst (λ (m : List ℕ). n ≡ prefix_len is_described m) e count) (subst (λ (m : List ℕ). n < length m → get_or m n 0 ≡ 34 → ⊥) e differs)

-- a comment

two_bytes : (text : List ℕ) (second : ℕ) → FirstIs classes.Slash text → 1 < length text → get_or text 1 0 ≡ second → text ≡ 47 ∷ second ∷ drop 2 text
two_bytes [] second first some e = absurd first
two_bytes (byte ∷ []) second first some e = absurd (omega (arith, some))
two_bytes (byte ∷ x ∷ tail) second first some e = λ i. slash_is byte first i ∷ e i ∷ tail

pub line_cuts : (text : List ℕ) (n : ℕ) → FirstIs classes.Slash text → 1 < length text → get_or text 1 0 ≡ 47 → (tail : List ℕ) → tail ≡ drop 2 text → n ≡ prefix_len is_on_line tail → Cuts text gap (n + 2)
line_cuts text n first some second tail back count =
    let e : text ≡ 47 ∷ 47 ∷ tail = two_bytes text 47 first some second ∙ ap (λ (l : List ℕ). 47 ∷ 47 ∷ l) (sym back) in
    let inside : AllBytes is_on_line (take n tail) = subst (λ k. AllBytes is_on_line (take k tail)) (sym count) (run_all is_on_line tail) in
    let stops : Stops is_on_line (drop n tail) = subst (λ k. Stops is_on_line (drop k tail)) (sym count) (run_stops is_on_line tail) in
    let many : n ≡ length (take n tail) = count ∙ sym (length-prefix_len is_on_line tail) ∙ ap (λ k. length (take k tail)) (sym count) in
    let whole : (47 ∷ 47 ∷ take n tail ++ drop n tail) ≡ text = ap (λ (l : List ℕ). 47 ∷ 47 ∷ l) (take-append-drop n tail) ∙ sym e in
    cuts text gap (47 ∷ 47 ∷ take n tail) (drop n tail) (n + 2)
    (subst (λ (l : List ℕ). Begins l gap (47 ∷ 47 ∷ take n tail) (drop n tail)) whole (line_comment_begins (take n tail) (drop n tail) inside stops))
    tt (omega (arith, many))

-- where */ stands inside, its two bytes stand at some place
has_at : (prefix back : List ℕ) → (length prefix + 1 < length (prefix ++ (42 ∷ 47 ∷ []) ++ back)) × (get_or (prefix ++ (42 ∷ 47 ∷ []) ++ back) (length prefix) 0 ≡ 42) × (get_or (prefix ++ (42 ∷ 47 ∷ []) ++ back) (length prefix + 1) 0 ≡ 47)
has_at [] back = (omega arith, refl, refl)
has_at (x ∷ prefix) back =
    let rest : List ℕ = prefix ++ (42 ∷ 47 ∷ []) ++ back in
    let there = has_at prefix back in
    let next : suc (length prefix) + 1 ≡ suc (length prefix + 1) = omega arith in
    (omega (arith, there.0), there.1, ap (λ k. get_or (x ∷ rest) k 0) next ∙ there.2)

no_end : (bytes : List ℕ) → ((k : ℕ) → k + 1 < length bytes → get_or bytes k 0 ≡ 42 → get_or bytes (k + 1) 0 ≡ 47 → ⊥) → ¬ Has (42 ∷ 47 ∷ []) bytes
no_end bytes none (prefix, back, e) =
    subst (λ (l : List ℕ). ((k : ℕ) → k + 1 < length l → get_or l k 0 ≡ 42 → get_or l (k + 1) 0 ≡ 47 → ⊥) → ⊥) (sym e)
    (λ here. here (length prefix) (has_at prefix back).0 (has_at prefix back).1 (has_at prefix back).2)
    none

block_parts : (tail : List ℕ) (n : ℕ) → n + 1 < length tail → get_or tail n 0 ≡ 42 → get_or tail (n + 1) 0 ≡ 47 → take n tail ++ (42 ∷ 47 ∷ drop (suc (suc n)) tail) ≡ tail
block_parts tail n within star slash =
    let here : n < length tail = omega arith in
    let next : suc n < length tail = omega arith in
    let second : get_or tail (suc n) 0 ≡ 47 = ap (λ k. get_or tail k 0) (sym (add-one n)) ∙ slash in
    let back : drop n tail ≡ get_or tail n 0 ∷ drop (suc n) tail = drop-cons tail n 0 here in
    let after : drop (suc n) tail ≡ get_or tail (suc n) 0 ∷ drop (suc (suc n)) tail = drop-cons tail (suc n) 0 next in
    let both : drop n tail ≡ 42 ∷ 47 ∷ drop (suc (suc n)) tail = cc in
    ap (λ (l : List ℕ). take n tail ++ l) (sym both) ∙ take-append-drop n tail

block_cut : (text tail : List ℕ) (n : ℕ) → text ≡ 47 ∷ 42 ∷ tail → n + 1 < length tail → get_or tail n 0 ≡ 42 → get_or tail (n + 1) 0 ≡ 47 → ((k : ℕ) → k < n → get_or tail k 0 ≡ 42 → get_or tail (k + 1) 0 ≡ 47 → ⊥) → Cuts text gap (n + 4)
block_cut text tail n e within star slash none =
    let short : n ≤ length tail = omega arith in
    let many : length (take n tail) ≡ n = length-take-le n tail short in
    let inside : ¬ Has (42 ∷ 47 ∷ []) (take n tail) = no_end (take n tail) (λ k below first second.
    none k (omega (arith, many, below)) (sym (get_or-take n tail k 0 (omega (arith, many, below))) ∙ first) (sym (get_or-take n tail (k + 1) 0 (omega (arith, many, below))) ∙ second)) in
    let whole : (47 ∷ 42 ∷ take n tail ++ (42 ∷ 47 ∷ drop (suc (suc n)) tail)) ≡ text = ap (λ (l : List ℕ). 47 ∷ 42 ∷ l) (block_parts tail n within star slash) ∙ sym e in
    cuts text gap (47 ∷ 42 ∷ take n tail ++ (42 ∷ 47 ∷ [])) (drop (suc (suc n)) tail) (n + 4)
    (subst (λ (l : List ℕ). Begins l gap (47 ∷ 42 ∷ take n tail ++ (42 ∷ 47 ∷ [])) (drop (suc (suc n)) tail)) whole (block_comment_begins (take n tail) (drop (suc (suc n)) tail) inside))
    tt (omega (arith, many, length-append (take n tail) (42 ∷ 47 ∷ [])))

pub block_cuts : (text : List ℕ) (n : ℕ) → FirstIs classes.Slash text → 1 < length text → get_or text 1 0 ≡ 42 → (tail : List ℕ) → tail ≡ drop 2 text
    → (n + 1 < length tail) × (get_or tail n 0 ≡ 42) × (get_or tail (n + 1) 0 ≡ 47) × ((k : ℕ) → k < n → get_or tail k 0 ≡ 42 → get_or tail (k + 1) 0 ≡ 47 → ⊥)
    → Cuts text gap (n + 4)
block_cuts text n first some second tail back (within, star, slash, none) =
    block_cut text tail n (two_bytes text 42 first some second ∙ ap (λ (l : List ℕ). 47 ∷ 42 ∷ l) (sym back)) within star slash none

pub block_open : (text : List ℕ) → FirstIs classes.Slash text → 1 < length text → get_or text 1 0 ≡ 42 → (tail : List ℕ) → tail ≡ drop 2 text → ((k : ℕ) → k + 1 < length tail → get_or tail k 0 ≡ 42 → get_or tail (k + 1) 0 ≡ 47 → ⊥) → Stands open_comment text
block_open text first some second tail back none = (tail, two_bytes text 42 first some second ∙ ap (λ (l : List ℕ). 47 ∷ 42 ∷ l) (sym back), no_end tail none)

begins_not : (other byte : ℕ) (tail : List ℕ) → (1 < length (byte ∷ tail) → get_or (byte ∷ tail) 1 0 ≡ other → ⊥) → ¬ BeginsWith (47 ∷ other ∷ []) (byte ∷ tail)
begins_not other byte [] differs (more, e) = cc
begins_not other byte (x ∷ tail) differs (more, e) = differs (omega arith) (let same : x ≡ other = cc in same)

pub lone_slash : (text : List ℕ) → FirstIs classes.Slash text → (1 < length text → get_or text 1 0 ≡ 47 → ⊥) → (1 < length text → get_or text 1 0 ≡ 42 → ⊥) → Stands no_token text
lone_slash [] first no_line no_block = absurd first
lone_slash (byte ∷ tail) first no_line no_block = (byte, tail, refl, inr (first, begins_not 47 byte tail no_line, begins_not 42 byte tail no_block))

-- one byte

pub mark_cuts : (text : List ℕ) (mark : Mark) → 0 < length text → class_of (get_or text 0 0) ≡ classes.Mark mark → Cuts text (token (kinds.Mark mark)) 1
mark_cuts [] mark some first = absurd (omega (arith, some))
mark_cuts (byte ∷ tail) mark some first = cuts (byte ∷ tail) _ (byte ∷ []) tail 1 (mark_begins byte mark tail first) tt refl

pub blank_cuts : (text : List ℕ) → 0 < length text → class_of (get_or text 0 0) ≡ classes.Blank → Cuts text gap 1
blank_cuts [] some first = absurd (omega (arith, some))
blank_cuts (byte ∷ tail) some first = cuts (byte ∷ tail) gap (byte ∷ []) tail 1 (blank_begins byte tail first) tt refl
