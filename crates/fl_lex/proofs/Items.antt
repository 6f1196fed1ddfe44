-- Which item stands at the beginning of a text: the lemmas by which one is known to be the longest.
use Rattle.std.proofs.Common.{◌≡◌, ℕ, ◌<◌, ◌≤◌, ◌⊎◌, inl, inr, true, List, [], ◌∷◌, ◌++◌, length, sym, refl, ap, ◌∙◌, subst, arith, append_assoc}
use Rattle.std.specs.Cmp.{first_so}
use Rattle.std.proofs.lemmas.List.{length-append}
use Rattle.fl_lex.specs.Spelling.{class_of, is_on_line, is_described, decimal_value, AllBytes, Has, IsDescription, IsLineComment, IsBlockComment, Item, gap, token, IsItem, Begins}
use Rattle.std.specs.List.{list_all}
use Rattle.fl_lex.specs.Words.{is_letter, is_word_byte, is_digit}
use Rattle.fl_lex.proofs.Classes.{letter_of, letter_class, letter_in_word, digit_is_digit, both}
use Rattle.fl_lex.specs.declared.token.TokenKind.TheVariants as kinds
use Rattle.fl_lex.specs.declared.token.Mark.{Mark}
use Rattle.fl_lex.specs.declared.class.ByteClass.{ByteClass}
use Rattle.fl_lex.specs.declared.class.ByteClass.TheVariants as classes
use Rattle.fl_lex.proofs.Runs.{Stops, run_longest, close_once}

-- what an item that begins with a byte of this class looks like
abbrev pub Shape : ByteClass → List ℕ → Type 0
Shape classes.Letter bytes = AllBytes is_word_byte bytes
Shape classes.Digit bytes = AllBytes is_digit bytes
Shape classes.Blank bytes = length bytes ≡ 1
Shape classes.Quote bytes = IsDescription bytes
Shape classes.Slash bytes = IsLineComment bytes ⊎ IsBlockComment bytes
Shape (classes.Mark mark) bytes = length bytes ≡ 1
Shape classes.Other bytes = ⊥

pub quote_class : class_of 34 ≡ classes.Quote
unfolding class_of
quote_class = refl

pub slash_class : class_of 47 ≡ classes.Slash
unfolding class_of
slash_class = refl

shaped : (class : ByteClass) (byte : ℕ) (bytes : List ℕ) → class_of byte ≡ class → Shape class bytes → Shape (class_of byte) bytes
shaped class byte bytes e shape = subst (λ k. Shape k bytes) (sym e) shape

one_byte : (byte other : ℕ) (more : List ℕ) → (byte ∷ more) ≡ (other ∷ []) → length (byte ∷ more) ≡ 1
one_byte byte other more e = ap length e

word_shape : (byte : ℕ) (more : List ℕ) → is_letter byte ≡ true → AllBytes is_word_byte more → AllBytes is_word_byte (byte ∷ more)
word_shape byte more first all = both (is_word_byte byte) (list_all is_word_byte more) (letter_in_word byte first) all

pub shape : (item : Item) (byte : ℕ) (more : List ℕ) → IsItem item (byte ∷ more) → Shape (class_of byte) (byte ∷ more)
shape gap byte more (inl (b, e, class)) =
    let same : byte ≡ b = cc in
    shaped classes.Blank byte _ (ap class_of same ∙ class) (one_byte byte b more e)
shape gap byte more (inr (inl (inside, e, all))) =
    let same : byte ≡ 47 = cc in
    shaped classes.Slash byte _ (ap class_of same ∙ slash_class) (inl (inside, e, all))
shape gap byte more (inr (inr (inside, e, none))) =
    let same : byte ≡ 47 = cc in
    shaped classes.Slash byte _ (ap class_of same ∙ slash_class) (inr (inside, e, none))
shape (token kinds.Word) byte more is = shaped classes.Letter byte _ (letter_class byte is.0) (word_shape byte more is.0 is.1)
shape (token (kinds.Number value)) byte more is = shaped classes.Digit byte _ (digit_is_digit byte (first_so (is_digit byte) _ is.1)) is.1
shape (token kinds.Description) byte more (inside, e, all) =
    let same : byte ≡ 34 = cc in
    shaped classes.Quote byte _ (ap class_of same ∙ quote_class) (inside, e, all)
shape (token (kinds.Mark mark)) byte more (b, e, class) =
    let same : byte ≡ b = cc in
    shaped (classes.Mark mark) byte _ (ap class_of same ∙ class) (one_byte byte b more e)

pub nonempty : (item : Item) (bytes : List ℕ) → IsItem item bytes → 0 < length bytes
nonempty item (byte ∷ more) is = omega arith
nonempty gap [] (inl (b, e, class)) = cc
nonempty gap [] (inr (inl (inside, e, all))) = cc
nonempty gap [] (inr (inr (inside, e, none))) = cc
nonempty (token kinds.Word) [] is = absurd is
nonempty (token (kinds.Number value)) [] is = is.0
nonempty (token kinds.Description) [] (inside, e, all) = cc
nonempty (token (kinds.Mark mark)) [] (b, e, class) = cc

-- the shape of an item that the text begins with, by the text's first byte
pub shape_at : (class : ByteClass) (byte : ℕ) (tail : List ℕ) (item : Item) (more less : List ℕ) → class_of byte ≡ class → more ++ less ≡ byte ∷ tail → IsItem item more → Shape class more
shape_at class byte tail item [] less first e is = absurd (omega (arith, nonempty item [] is))
shape_at class byte tail item (b ∷ more) less first e is =
    let same : class_of b ≡ class = ap class_of (let h : b ≡ byte = cc in h) ∙ first in
    subst (λ k. Shape k (b ∷ more)) same (shape item b more is)

-- the lemmas by which an item is known to stand at the beginning of a text: the byte behind it, or its own
-- last byte, ends it

pub word_begins : (byte : ℕ) (more rest : List ℕ) → class_of byte ≡ classes.Letter → AllBytes is_word_byte more → Stops is_word_byte rest → Begins (byte ∷ more ++ rest) (token kinds.Word) (byte ∷ more) rest
word_begins byte more rest first all stops = record {
  joined = refl;
  is_item = (letter_of byte first, all);
  longest = λ other longer less e is. run_longest is_word_byte longer less (byte ∷ more) rest e (shape_at classes.Letter byte (more ++ rest) other longer less first e is) stops;
}

pub number_begins : (digits rest : List ℕ) → 0 < length digits → AllBytes is_digit digits → Stops is_digit rest → Begins (digits ++ rest) (token (kinds.Number (decimal_value digits))) digits rest
number_begins [] rest some all stops = absurd (omega arith)
number_begins (digit ∷ digits) rest some all stops = record {
  joined = refl;
  is_item = (some, all, refl);
  longest = λ other longer less e is. run_longest is_digit longer less (digit ∷ digits) rest e (shape_at classes.Digit digit (digits ++ rest) other longer less (digit_is_digit digit (first_so (is_digit digit) _ all)) e is) stops;
}

pub mark_begins : (byte : ℕ) (mark : Mark) (rest : List ℕ) → class_of byte ≡ classes.Mark mark → Begins (byte ∷ rest) (token (kinds.Mark mark)) (byte ∷ []) rest
mark_begins byte mark rest first = record {
  joined = refl;
  is_item = (byte, refl, first);
  longest = λ other longer less e is. omega (arith, shape_at (classes.Mark mark) byte rest other longer less first e is);
}

pub blank_begins : (byte : ℕ) (rest : List ℕ) → class_of byte ≡ classes.Blank → Begins (byte ∷ rest) gap (byte ∷ []) rest
blank_begins byte rest first = record {
  joined = refl;
  is_item = inl (byte, refl, first);
  longest = λ other longer less e is. omega (arith, shape_at classes.Blank byte rest other longer less first e is);
}

pub after_quotes : (ins less inside rest : List ℕ) → (34 ∷ ins ++ (34 ∷ [])) ++ less ≡ 34 ∷ inside ++ (34 ∷ rest) → ins ++ (34 ∷ less) ≡ inside ++ (34 ∷ rest)
after_quotes ins less inside rest e =
    let tails : (ins ++ (34 ∷ [])) ++ less ≡ inside ++ (34 ∷ rest) = cc in
    sym (append_assoc ins (34 ∷ []) less) ∙ tails

description_longest : (longer less inside rest : List ℕ) → longer ++ less ≡ 34 ∷ inside ++ (34 ∷ rest) → IsDescription longer → length longer ≤ length (34 ∷ inside ++ (34 ∷ []))
description_longest longer less inside rest e (ins, is, all) =
    let whole : (34 ∷ ins ++ (34 ∷ [])) ++ less ≡ 34 ∷ inside ++ (34 ∷ rest) = ap (λ (l : List ℕ). l ++ less) (sym is) ∙ e in
    let shorter : length ins ≤ length inside = run_longest is_described ins (34 ∷ less) inside (34 ∷ rest) (after_quotes ins less inside rest whole) all refl in
    omega (arith, shorter, ap length is, length-append ins (34 ∷ []), length-append inside (34 ∷ []))

pub description_begins : (inside rest : List ℕ) → AllBytes is_described inside → Begins (34 ∷ inside ++ (34 ∷ rest)) (token kinds.Description) (34 ∷ inside ++ (34 ∷ [])) rest
description_begins inside rest all = record {
  joined = ap (λ (l : List ℕ). 34 ∷ l) (append_assoc inside (34 ∷ []) rest);
  is_item = (inside, refl, all);
  longest = λ other longer less e is. description_longest longer less inside rest e (shape_at classes.Quote 34 (inside ++ (34 ∷ rest)) other longer less quote_class e is);
}

line_longest : (longer less inside rest : List ℕ) → longer ++ less ≡ 47 ∷ 47 ∷ inside ++ rest → Stops is_on_line rest → IsLineComment longer ⊎ IsBlockComment longer → length longer ≤ length (47 ∷ 47 ∷ inside)
line_longest longer less inside rest e stops (inl (ins, is, all)) =
    let whole : (47 ∷ 47 ∷ ins) ++ less ≡ 47 ∷ 47 ∷ inside ++ rest = ap (λ (l : List ℕ). l ++ less) (sym is) ∙ e in
    let tails : ins ++ less ≡ inside ++ rest = cc in
    let shorter : length ins ≤ length inside = run_longest is_on_line ins less inside rest tails all stops in
    omega (arith, shorter, ap length is)
line_longest longer less inside rest e stops (inr (ins, is, none)) =
    let whole : (47 ∷ 42 ∷ ins ++ (42 ∷ 47 ∷ [])) ++ less ≡ 47 ∷ 47 ∷ inside ++ rest = ap (λ (l : List ℕ). l ++ less) (sym is) ∙ e in
    let star : ℕ = 42 in
    let wrong : star ≡ 47 = cc in
    omega (arith, wrong)

pub line_comment_begins : (inside rest : List ℕ) → AllBytes is_on_line inside → Stops is_on_line rest → Begins (47 ∷ 47 ∷ inside ++ rest) gap (47 ∷ 47 ∷ inside) rest
line_comment_begins inside rest all stops = record {
  joined = refl;
  is_item = inr (inl (inside, refl, all));
  longest = λ other longer less e is. line_longest longer less inside rest e stops (shape_at classes.Slash 47 (47 ∷ inside ++ rest) other longer less slash_class e is);
}

pub after_opening : (ins less inside rest : List ℕ) → (47 ∷ 42 ∷ ins ++ (42 ∷ 47 ∷ [])) ++ less ≡ 47 ∷ 42 ∷ inside ++ (42 ∷ 47 ∷ rest) → ins ++ (42 ∷ 47 ∷ less) ≡ inside ++ (42 ∷ 47 ∷ rest)
after_opening ins less inside rest e =
    let tails : (ins ++ (42 ∷ 47 ∷ [])) ++ less ≡ inside ++ (42 ∷ 47 ∷ rest) = cc in
    sym (append_assoc ins (42 ∷ 47 ∷ []) less) ∙ tails

block_longest : (longer less inside rest : List ℕ) → longer ++ less ≡ 47 ∷ 42 ∷ inside ++ (42 ∷ 47 ∷ rest) → IsLineComment longer ⊎ IsBlockComment longer → length longer ≤ length (47 ∷ 42 ∷ inside ++ (42 ∷ 47 ∷ []))
block_longest longer less inside rest e (inl (ins, is, all)) =
    let whole : (47 ∷ 47 ∷ ins) ++ less ≡ 47 ∷ 42 ∷ inside ++ (42 ∷ 47 ∷ rest) = ap (λ (l : List ℕ). l ++ less) (sym is) ∙ e in
    let star : ℕ = 42 in
    let wrong : star ≡ 47 = cc in
    omega (arith, wrong)
block_longest longer less inside rest e (inr (ins, is, none)) =
    let whole : (47 ∷ 42 ∷ ins ++ (42 ∷ 47 ∷ [])) ++ less ≡ 47 ∷ 42 ∷ inside ++ (42 ∷ 47 ∷ rest) = ap (λ (l : List ℕ). l ++ less) (sym is) ∙ e in
    let shorter : length ins ≤ length inside = close_once ins less inside rest (after_opening ins less inside rest whole) none in
    omega (arith, shorter, ap length is, length-append ins (42 ∷ 47 ∷ []), length-append inside (42 ∷ 47 ∷ []))

pub block_comment_begins : (inside rest : List ℕ) → ¬ Has (42 ∷ 47 ∷ []) inside → Begins (47 ∷ 42 ∷ inside ++ (42 ∷ 47 ∷ rest)) gap (47 ∷ 42 ∷ inside ++ (42 ∷ 47 ∷ [])) rest
block_comment_begins inside rest none = record {
  joined = ap (λ (l : List ℕ). 47 ∷ 42 ∷ l) (append_assoc inside (42 ∷ 47 ∷ []) rest);
  is_item = inr (inr (inside, refl, none));
  longest = λ other longer less e is. block_longest longer less inside rest e (shape_at classes.Slash 47 (42 ∷ inside ++ (42 ∷ 47 ∷ rest)) other longer less slash_class e is);
}
