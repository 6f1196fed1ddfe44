-- What is printed reads as what was printed.
use Rattle.std.proofs.Common.{◌≡◌, ◌<◌, ◌≤◌, ℕ, ◌^◌, ◌&&◌, Bool, true, false, not, if◌then◌else◌, List, [], ◌∷◌, ◌++◌, length, map, Some, None, refl, sym, ap, subst, ◌∙◌, arith, append-nil}
use Rattle.std.specs.Prelude.{nat_le}
use Rattle.std.specs.List.{list_all}
use Rattle.std.specs.Char.{digit_value}
use Rattle.std.specs.Cmp.{first_so, second_so}
use Rattle.std.specs.Fmt.{decimal}
use Rattle.std.specs.Str.Parse.{AllDigits, digits_value}
use Rattle.std.proofs.Math.Nat.{pow-le-pow_right}
use Rattle.std.proofs.lemmas.Bool.Decides.{nat_tests}
use Rattle.std.proofs.lemmas.Fmt.{decimal_is_IsNumeral_wide, length-decimal-le_wide}
use Rattle.std.proofs.lemmas.Int.Digits.{digits_value-lt}
use Rattle.fl_base.specs.declared.identity.Side.{Side}
use Rattle.fl_base.specs.declared.identity.Side.TheVariants.{Client, Server}
use Rattle.fl_lex.specs.Words.{is_name, is_word, is_word_byte, is_letter, is_digit}
use Rattle.fl_value.specs.CallText.{is_blank, without_blanks}
use Rattle.fl_script_lines.specs.Words.{to_blank, from_blank, first_word, behind_word, number_of}
use Rattle.fl_script_lines.specs.Commands.{EndName, BackEnd, local, ump, hop, Command, cores, link, disp, export, bind, call, show, write, turn, ack, register, deregister, reply, mwrite, forward, mack, Piece, the_word, a_name, a_number, an_end, a_text, row_of, back_end_row, side_text, end_text}
use Rattle.fl_script_lines.specs.Grammar.{Holds, printed_more, printed_row, CanStand, PrintedReads, SpelledReads}

-- ---- words without blanks

abbrev no_blank : ℕ → Bool
no_blank b = not (is_blank b)

pub record Plain (word : List ℕ) : Type 0 where
  pub some : 0 < length word
  pub all : list_all no_blank word ≡ true

-- nothing, or a blank first
abbrev Parted : List ℕ → Type 0
Parted [] = Unit {0}
Parted (b ∷ bytes) = is_blank b ≡ true

not_blank : (b : ℕ) → no_blank b ≡ true → is_blank b ≡ false
not_blank b h = no_one (is_blank b) h
  where
    no_one : (x : Bool) → not x ≡ true → x ≡ false
    no_one true e = cc
    no_one false e = refl

to_word : (word more : List ℕ) → list_all no_blank word ≡ true → Parted more → (to_blank (word ++ more) ≡ word) × (from_blank (word ++ more) ≡ more)
to_word [] [] h p = (refl, refl)
to_word [] (b ∷ more) h p = (rw p refl, rw p refl)
to_word (b ∷ word) more h p =
    let here = not_blank b (first_so (no_blank b) (list_all no_blank word) h) in
    let e = to_word word more (second_so (no_blank b) (list_all no_blank word) h) p in
    (rw here (ap (λ (w : List ℕ). b ∷ w) e.0), rw here e.1)

no_skip : (word more : List ℕ) → Plain word → without_blanks (word ++ more) ≡ word ++ more
no_skip [] more p = absurd (omega (arith, p.some))
no_skip (b ∷ word) more p = let here = not_blank b (first_so (no_blank b) (list_all no_blank word) p.all) in rw here refl

word_printed : (word more : List ℕ) → Plain word → Parted more → (first_word (word ++ more) ≡ word) × (behind_word (word ++ more) ≡ more)
word_printed word more p parted =
    let skip = no_skip word more p in
    let e = to_word word more p.all parted in
    (ap to_blank skip ∙ e.0, ap from_blank skip ∙ e.1)

-- the same of a word with nothing behind it
pub word_alone : (word : List ℕ) → Plain word → (first_word word ≡ word) × (first_word (behind_word word) ≡ [])
word_alone word p =
    let e = word_printed word [] p tt in
    let same = append-nil word in (
      subst (λ (w : List ℕ). first_word w ≡ word) same e.0,
      ap first_word (subst (λ (w : List ℕ). behind_word w ≡ []) same e.1),
    )

parted : (pieces : List Piece) → Parted (printed_more pieces)
parted [] = tt
parted (piece ∷ pieces) = refl

-- ---- names, numbers, ends

letter_plain : (b : ℕ) → is_letter b ≡ true → no_blank b ≡ true
letter_plain b h = grind (arith, nat_tests, h)

byte_plain : (b : ℕ) → is_word_byte b ≡ true → no_blank b ≡ true
byte_plain b h = grind (arith, nat_tests, h)

bytes_plain : (bytes : List ℕ) → list_all is_word_byte bytes ≡ true → list_all no_blank bytes ≡ true
bytes_plain [] h = refl
bytes_plain (b ∷ bytes) h =
    ap (λ x. x && list_all no_blank bytes) (byte_plain b (first_so (is_word_byte b) (list_all is_word_byte bytes) h))
    ∙ bytes_plain bytes (second_so (is_word_byte b) (list_all is_word_byte bytes) h)

word_plain : (word : List ℕ) → is_word word ≡ true → Plain word
word_plain [] h = cc
word_plain (b ∷ word) h = record {
  some = omega arith;
  all = ap (λ x. x && list_all no_blank word) (letter_plain b (first_so (is_letter b) (list_all is_word_byte word) h))
      ∙ bytes_plain word (second_so (is_letter b) (list_all is_word_byte word) h);
}

pub name_plain : (name : List ℕ) → is_name name ≡ true → Plain name
name_plain name h = word_plain name (second_so (nat_le (length name) 64) (is_word name) h)

joined_plain : (a b : List ℕ) → list_all no_blank a ≡ true → list_all no_blank b ≡ true → list_all no_blank (a ++ b) ≡ true
joined_plain [] b h k = k
joined_plain (x ∷ a) b h k =
    ap (λ y. y && list_all no_blank (a ++ b)) (first_so (no_blank x) (list_all no_blank a) h)
    ∙ joined_plain a b (second_so (no_blank x) (list_all no_blank a) h) k

side_plain : (s : Side) → list_all no_blank (side_text s) ≡ true
side_plain Client = refl
side_plain Server = refl

longer : (a b : List ℕ) → 0 < length a → 0 < length (a ++ b)
longer [] b h = absurd (omega (arith, h))
longer (x ∷ a) b h = omega arith

pub end_plain : (e : EndName) → is_name e.binding ≡ true → Plain (end_text e)
end_plain e h =
    let p = name_plain e.binding h in
    record { some = longer e.binding (side_text e.side) p.some; all = joined_plain e.binding (side_text e.side) p.all (side_plain e.side) }

digit_plain : (d : ℕ) → digit_value d < 10 → no_blank d ≡ true
digit_plain d h = grind (arith, nat_tests, h)

digit_there : (d : ℕ) → digit_value d < 10 → is_digit d ≡ true
digit_there d h = grind (arith, nat_tests, h)

digits_plain : (ds : List ℕ) → AllDigits 10 ds → list_all no_blank ds ≡ true
digits_plain [] h = refl
digits_plain (d ∷ ds) h = ap (λ x. x && list_all no_blank ds) (digit_plain d h.0) ∙ digits_plain ds h.1

digits_there : (ds : List ℕ) → AllDigits 10 ds → list_all is_digit ds ≡ true
digits_there [] h = refl
digits_there (d ∷ ds) h = ap (λ x. x && list_all is_digit ds) (digit_there d h.0) ∙ digits_there ds h.1

by_tests : (word : List ℕ) (v : ℕ) (a b : Bool) → a ≡ true → b ≡ true → list_all is_digit word ≡ true → digits_value 10 word ≡ v
    → (if a && b && list_all is_digit word then Some (digits_value 10 word) else None) ≡ Some v
by_tests word v a b h k l e = rw (h, k, l) (ap (λ n. Some n) e)

number_plain : (n : ℕ) → n < 10 ^ 9 → Plain (decimal n)
number_plain n small =
    let numeral = decimal_is_IsNumeral_wide n (omega (arith, small)) in
    record { some = numeral.0.0; all = digits_plain (decimal n) numeral.0.1 }

number_printed : (n : ℕ) → n < 10 ^ 9 → number_of (decimal n) ≡ Some n
number_printed n small =
    let numeral = decimal_is_IsNumeral_wide n (omega (arith, small)) in
    let few : length (decimal n) ≤ 9 = length-decimal-le_wide 9 n (omega arith) small (omega arith) in
    let some : 1 ≤ length (decimal n) = numeral.0.0 in
    by_tests (decimal n) n (nat_le 1 (length (decimal n))) (nat_le (length (decimal n)) 9) (grind (arith, nat_tests, some)) (grind (arith, nat_tests, few))
    (digits_there (decimal n) numeral.0.1) numeral.1

-- ---- rows

-- its words have no blank, and a text stands last
abbrev is_row : List Piece → Bool
is_row [] = true
is_row (the_word word ∷ pieces) = nat_le 1 (length word) && list_all no_blank word && is_row pieces
is_row (a_name name ∷ pieces) = is_row pieces
is_row (a_number n ∷ pieces) = is_row pieces
is_row (an_end e ∷ pieces) = is_row pieces
is_row (a_text text ∷ []) = true
is_row (a_text text ∷ piece ∷ pieces) = false

cores_are : (others : List ℕ) → is_row (map (λ core. a_number core) others) ≡ true
cores_are [] = refl
cores_are (core ∷ others) = cores_are others

back_end_is : (b : BackEnd) → is_row (back_end_row b) ≡ true
back_end_is (local slots) = refl
back_end_is (ump slots) = refl
back_end_is (hop first others) = cores_are others

rows_are : (c : Command) → is_row (row_of c) ≡ true
rows_are (cores n) = refl
rows_are (link a b slots) = refl
rows_are (disp d core) = refl
rows_are (export s d i) = refl
rows_are (bind p d i s b) = back_end_is b
rows_are (call e text) = refl
rows_are (show e) = refl
rows_are (write e) = refl
rows_are (turn d) = refl
rows_are (ack e) = refl
rows_are (register e) = refl
rows_are (deregister e) = refl
rows_are (reply e m n) = refl
rows_are (mwrite a b) = refl
rows_are (forward a b) = refl
rows_are (mack a b) = refl

behind_it : (pieces : List Piece) (line : List ℕ) → behind_word line ≡ printed_more pieces → Holds pieces (printed_more pieces) → Holds pieces (behind_word line)
behind_it pieces line e h = subst (Holds pieces) (sym e) h

word_row : (word : List ℕ) (rest : Bool) → (nat_le 1 (length word) && list_all no_blank word && rest) ≡ true → Plain word × (rest ≡ true)
word_row word rest h =
    let plain = first_so (nat_le 1 (length word) && list_all no_blank word) rest h in
    let one = first_so (nat_le 1 (length word)) (list_all no_blank word) plain in (
      record { some = grind (arith, nat_tests, one); all = second_so (nat_le 1 (length word)) (list_all no_blank word) plain },
      second_so (nat_le 1 (length word) && list_all no_blank word) rest h,
    )

stands : (pieces : List Piece) → is_row pieces ≡ true → CanStand pieces → Holds pieces (printed_more pieces)
stands [] r h = refl
stands (the_word word ∷ pieces) r h =
    let w = word_row word (is_row pieces) r in
    let e = word_printed word (printed_more pieces) w.0 (parted pieces) in
    (e.0, behind_it pieces (word ++ printed_more pieces) e.1 (stands pieces w.1 h))
stands (a_name name ∷ pieces) r h =
    let e = word_printed name (printed_more pieces) (name_plain name h.0) (parted pieces) in
    (e.0, h.0, behind_it pieces (name ++ printed_more pieces) e.1 (stands pieces r h.1))
stands (a_number n ∷ pieces) r h =
    let e = word_printed (decimal n) (printed_more pieces) (number_plain n h.0) (parted pieces) in
    (ap number_of e.0 ∙ number_printed n h.0, behind_it pieces (decimal n ++ printed_more pieces) e.1 (stands pieces r h.1))
stands (an_end x ∷ pieces) r h =
    let e = word_printed (end_text x) (printed_more pieces) (end_plain x h.0) (parted pieces) in
    (e.0, h.0, behind_it pieces (end_text x ++ printed_more pieces) e.1 (stands pieces r h.1))
stands (a_text text ∷ []) r h = ap without_blanks (append-nil text) ∙ h.0
stands (a_text text ∷ piece ∷ pieces) r h = cc

row_reads : (pieces : List Piece) → is_row pieces ≡ true → CanStand pieces → Holds pieces (printed_row pieces)
row_reads [] r h = refl
row_reads (the_word word ∷ pieces) r h = stands (the_word word ∷ pieces) r h
row_reads (a_name name ∷ pieces) r h = stands (a_name name ∷ pieces) r h
row_reads (a_number n ∷ pieces) r h = stands (a_number n ∷ pieces) r h
row_reads (an_end e ∷ pieces) r h = stands (an_end e ∷ pieces) r h
row_reads (a_text text ∷ pieces) r h = stands (a_text text ∷ pieces) r h

pub printed_is_read : PrintedReads
printed_is_read c h = row_reads (row_of c) (rows_are c) h

-- ---- what stands in some line can stand in one

skips_once : (line : List ℕ) → without_blanks (without_blanks line) ≡ without_blanks line
skips_once [] = refl
skips_once (b ∷ line) = by_first (skips_once line) (is_blank b) refl
  where
    by_first : without_blanks (without_blanks line) ≡ without_blanks line → (x : Bool) → is_blank b ≡ x → without_blanks (without_blanks (b ∷ line)) ≡ without_blanks (b ∷ line)
    by_first inner true e = rw e inner
    by_first inner false e = rw e (rw e refl)

digit_valued : (d : ℕ) → is_digit d ≡ true → digit_value d < 10
digit_valued d h = grind (arith, nat_tests, h)

digits_valued : (ds : List ℕ) → list_all is_digit ds ≡ true → AllDigits 10 ds
digits_valued [] h = tt
digits_valued (d ∷ ds) h =
    (digit_valued d (first_so (is_digit d) (list_all is_digit ds) h), digits_valued ds (second_so (is_digit d) (list_all is_digit ds) h))

small_number : (word : List ℕ) (n : ℕ) (b : Bool) → (nat_le 1 (length word) && nat_le (length word) 9 && list_all is_digit word) ≡ b
    → (if b then Some (digits_value 10 word) else None) ≡ Some n → n < 10 ^ 9
small_number word n false t e = cc
small_number word n true t e =
    let sized = first_so (nat_le 1 (length word) && nat_le (length word) 9) (list_all is_digit word) t in
    let few = second_so (nat_le 1 (length word)) (nat_le (length word) 9) sized in
    let all = second_so (nat_le 1 (length word) && nat_le (length word) 9) (list_all is_digit word) t in
    let below = digits_value-lt 10 word (digits_valued word all) in
    let size : length word ≤ 9 = grind (arith, nat_tests, few) in
    let most : 10 ^ length word ≤ 10 ^ 9 = pow-le-pow_right {n = 10} (omega arith) {i = length word} {j = 9} size in
    let same : digits_value 10 word ≡ n = cc in
    omega (arith, below, most, same)

can_stand : (pieces : List Piece) (line : List ℕ) → is_row pieces ≡ true → Holds pieces line → CanStand pieces
can_stand [] line r h = tt
can_stand (the_word word ∷ pieces) line r h = can_stand pieces (behind_word line) (word_row word (is_row pieces) r).1 h.1
can_stand (a_name name ∷ pieces) line r h = (h.1, can_stand pieces (behind_word line) r h.2)
can_stand (a_number n ∷ pieces) line r h = (small_number (first_word line) n _ refl h.0, can_stand pieces (behind_word line) r h.1)
can_stand (an_end e ∷ pieces) line r h = (h.1, can_stand pieces (behind_word line) r h.2)
can_stand (a_text text ∷ []) line r h = (ap without_blanks (sym h) ∙ (skips_once line ∙ h), tt)
can_stand (a_text text ∷ piece ∷ pieces) line r h = cc

pub spelled_is_read : SpelledReads
spelled_is_read line c h = printed_is_read c (can_stand (row_of c) line (rows_are c) h)
