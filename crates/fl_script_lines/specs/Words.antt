-- The words of a line, parted by spaces and tabs, and the numbers that words write.
use Rattle.std.specs.Prelude.{ℕ, ◌==◌, ◌&&◌, nat_le, Bool, true, if◌then◌else◌, List, [], ◌∷◌, length}
use Rattle.std.specs.Prelude.{Option, Some, None, option_map, unwrap_or}
use Rattle.std.specs.List.{list_all}
use Rattle.std.specs.Str.Parse.{digits_value}
use Rattle.fl_base.specs.Given.{given}
use Rattle.fl_lex.specs.Words.{is_digit}
use Rattle.fl_value.specs.CallText.{is_blank, without_blanks}

-- the bytes up to the first blank
abbrev pub to_blank : List ℕ → List ℕ
to_blank [] = []
to_blank (b ∷ bytes) = if is_blank b then [] else b ∷ to_blank bytes

-- the bytes from the first blank on
abbrev pub from_blank : List ℕ → List ℕ
from_blank [] = []
from_blank (b ∷ bytes) = if is_blank b then b ∷ bytes else from_blank bytes

-- the first word of a line, empty where there is none, and what stands behind it
abbrev pub first_word : List ℕ → List ℕ
first_word line = to_blank (without_blanks line)

abbrev pub behind_word : List ℕ → List ℕ
behind_word line = from_blank (without_blanks line)

-- nothing stands there
abbrev pub is_none : List ℕ → Bool
is_none word = length word == 0

-- the number that a word of 1 to 9 digits writes
abbrev pub number_of : List ℕ → Option ℕ
number_of word =
    if nat_le 1 (length word) && nat_le (length word) 9 && list_all is_digit word then Some (digits_value 10 word) else None

-- a line without a word, or whose first word begins with `#`, has no answer
abbrev pub begins_comment : List ℕ → Bool
begins_comment [] = true
begins_comment (b ∷ bytes) = b == 35

abbrev pub is_silent : List ℕ → Bool
is_silent line = begins_comment (first_word line)

-- ---- all words of a line

abbrev pub joins_word : ℕ → List ℕ → List (List ℕ) → List (List ℕ)
joins_word b [] words = (b ∷ []) ∷ words
joins_word b (c ∷ bytes) [] = (b ∷ []) ∷ []
joins_word b (c ∷ bytes) (word ∷ words) = if is_blank c then (b ∷ []) ∷ word ∷ words else (b ∷ word) ∷ words

abbrev pub words_of : List ℕ → List (List ℕ)
words_of [] = []
words_of (b ∷ bytes) = if is_blank b then words_of bytes else joins_word b bytes (words_of bytes)

-- the numbers that words write, if each of them writes one
abbrev pub numbers_of : List (List ℕ) → Option (List ℕ)
numbers_of [] = Some []
numbers_of (word ∷ words) = given (number_of word) None λ n. option_map (λ ns. n ∷ ns) (numbers_of words)

-- the numbers that a text writes, if all its words are numbers, and else none
abbrev pub numbers_in : List ℕ → List ℕ
numbers_in text = unwrap_or (numbers_of (words_of text)) []
