-- Letters and digits by the class of a byte.
use Rattle.std.proofs.Common.{◌≡◌, ℕ, Bool, true, false, ◌||◌, ◌&&◌, ◌==◌, if◌then◌else◌, nat_le, refl, sym, ap, ◌∙◌, subst, arith}
use Rattle.std.proofs.lemmas.Bool.Decides.{nat_tests}
use Rattle.fl_lex.specs.Words.{is_letter, is_digit, is_word_byte}
use Rattle.fl_lex.specs.Spelling.{class_of, mark_class}
use Rattle.fl_lex.specs.declared.class.ByteClass.{ByteClass}
use Rattle.fl_lex.specs.declared.class.ByteClass.TheVariants as classes
use Rattle.fl_lex.specs.declared.token.Mark.TheVariants as marks

-- bytes of these classes make up a word
abbrev pub in_word : ByteClass → Bool
in_word classes.Letter = true
in_word classes.Digit = true
in_word _ = false

-- bytes of this class make up a number
abbrev pub in_number : ByteClass → Bool
in_number classes.Digit = true
in_number _ = false

-- a class that no letter and no digit has
abbrev is_other : ByteClass → Bool
is_other classes.Letter = false
is_other classes.Digit = false
is_other _ = true

-- a mark's class by tests
abbrev mark_by : Bool → Bool → Bool → Bool → Bool → Bool → Bool → Bool → ByteClass
mark_by a c d e f g h i =
    if a then classes.Mark marks.OpenBrace
    else (if c then classes.Mark marks.CloseBrace
    else (if d then classes.Mark marks.OpenParen
    else (if e then classes.Mark marks.CloseParen
    else (if f then classes.Mark marks.OpenBracket
    else (if g then classes.Mark marks.CloseBracket
    else (if h then classes.Mark marks.Comma
    else (if i then classes.Mark marks.Semicolon
    else classes.Other)))))))

other_by : (a c d e f g h i : Bool) → is_other (mark_by a c d e f g h i) ≡ true
other_by true c d e f g h i = refl
other_by false true d e f g h i = refl
other_by false false true e f g h i = refl
other_by false false false true f g h i = refl
other_by false false false false true g h i = refl
other_by false false false false false true h i = refl
other_by false false false false false false true i = refl
other_by false false false false false false false true = refl
other_by false false false false false false false false = refl

marks_are_other : (b : ℕ) → is_other (mark_class b) ≡ true
unfolding mark_class
marks_are_other b = other_by (b == 123) (b == 125) (b == 40) (b == 41) (b == 91) (b == 93) (b == 44) (b == 59)

-- a class by tests, of which the first is a letter's and the second a digit's
abbrev by_tests : Bool → Bool → Bool → Bool → Bool → ByteClass → ByteClass
by_tests letter digit blank quote slash mark =
    if letter then classes.Letter
    else (if digit then classes.Digit
    else (if blank then classes.Blank
    else (if quote then classes.Quote
    else (if slash then classes.Slash
    else mark))))

no_word : (k : ByteClass) → is_other k ≡ true → in_word k ≡ false
no_word classes.Letter o = absurd cc
no_word classes.Digit o = absurd cc
no_word _ o = refl

no_number : (k : ByteClass) → is_other k ≡ true → in_number k ≡ false
no_number classes.Digit o = absurd cc
no_number _ o = refl

letter_by : (letter digit blank quote slash : Bool) (mark : ByteClass) → is_other mark ≡ true → by_tests letter digit blank quote slash mark ≡ classes.Letter → letter ≡ true
letter_by true digit blank quote slash mark o e = refl
letter_by false true blank quote slash mark o e = absurd cc
letter_by false false true quote slash mark o e = absurd cc
letter_by false false false true slash mark o e = absurd cc
letter_by false false false false true mark o e = absurd cc
letter_by false false false false false mark o e = subst (λ (k : ByteClass). is_other k ≡ true) e o

word_by : (letter digit blank quote slash : Bool) (mark : ByteClass) → is_other mark ≡ true → (letter || digit) ≡ in_word (by_tests letter digit blank quote slash mark)
word_by true digit blank quote slash mark o = refl
word_by false true blank quote slash mark o = refl
word_by false false true quote slash mark o = refl
word_by false false false true slash mark o = refl
word_by false false false false true mark o = refl
word_by false false false false false mark o = sym (no_word mark o)

number_by : (letter digit blank quote slash : Bool) (mark : ByteClass) → (letter ≡ true → digit ≡ false) → is_other mark ≡ true
    → digit ≡ in_number (by_tests letter digit blank quote slash mark)
number_by true digit blank quote slash mark apart o = apart refl
number_by false true blank quote slash mark apart o = refl
number_by false false true quote slash mark apart o = refl
number_by false false false true slash mark apart o = refl
number_by false false false false true mark apart o = refl
number_by false false false false false mark apart o = sym (no_number mark o)

apart : (b : ℕ) → is_letter b ≡ true → is_digit b ≡ false
apart b e = grind (arith, nat_tests)

-- ---- letters

pub letter_of : (b : ℕ) → class_of b ≡ classes.Letter → is_letter b ≡ true
unfolding class_of
letter_of b e = letter_by (is_letter b) (is_digit b) ((nat_le 9 b && nat_le b 13) || (b == 32)) (b == 34) (b == 47) (mark_class b) (marks_are_other b) e

letter_first : (letter : Bool) (k : ByteClass) → letter ≡ true → (if letter then classes.Letter else k) ≡ classes.Letter
letter_first true k e = refl
letter_first false k e = absurd cc

pub letter_class : (b : ℕ) → is_letter b ≡ true → class_of b ≡ classes.Letter
unfolding class_of
letter_class b e = letter_first (is_letter b) _ e

pub letter_in_word : (b : ℕ) → is_letter b ≡ true → is_word_byte b ≡ true
letter_in_word b e = ap (λ (x : Bool). x || is_digit b) e

-- ---- bytes of words and digits, by their class

pub word_byte_is : (b : ℕ) → is_word_byte b ≡ in_word (class_of b)
unfolding class_of
word_byte_is b = word_by (is_letter b) (is_digit b) ((nat_le 9 b && nat_le b 13) || (b == 32)) (b == 34) (b == 47) (mark_class b) (marks_are_other b)

pub digit_is : (b : ℕ) → is_digit b ≡ in_number (class_of b)
unfolding class_of
digit_is b = number_by (is_letter b) (is_digit b) ((nat_le 9 b && nat_le b 13) || (b == 32)) (b == 34) (b == 47) (mark_class b) (apart b) (marks_are_other b)

by_number : (k : ByteClass) → in_number k ≡ true → k ≡ classes.Digit
by_number classes.Digit e = refl
by_number _ e = cc

pub digit_is_digit : (b : ℕ) → is_digit b ≡ true → class_of b ≡ classes.Digit
digit_is_digit b e = by_number (class_of b) (sym (digit_is b) ∙ e)

pub both : (a b : Bool) → a ≡ true → b ≡ true → (a && b) ≡ true
both true b p q = q
both false b p q = absurd cc
