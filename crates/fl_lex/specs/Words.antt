-- Letters, digits and words, as texts, calls, images and scripts have them.
use Rattle.std.specs.Prelude.{ℕ, ◌==◌, ◌||◌, ◌&&◌, Bool, false, nat_le, List, [], ◌∷◌, length}
use Rattle.std.specs.List.{list_all}
use Rattle.std.specs.Char.{is_ascii_alphabetic, is_ascii_digit}

-- a letter or _
abbrev pub is_letter : ℕ → Bool
is_letter b = is_ascii_alphabetic b || (b == 95)

-- a decimal digit
abbrev pub is_digit : ℕ → Bool
is_digit b = is_ascii_digit b

-- a letter, a digit or _
abbrev pub is_word_byte : ℕ → Bool
is_word_byte b = is_letter b || is_digit b

-- a letter or _, then letters, digits and _
abbrev pub is_word : List ℕ → Bool
is_word [] = false
is_word (b ∷ bytes) = is_letter b && list_all is_word_byte bytes

-- a word of at most 64 bytes
abbrev pub is_name : List ℕ → Bool
is_name bytes = nat_le (length bytes) 64 && is_word bytes
