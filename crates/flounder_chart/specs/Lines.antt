-- Lines that are asked for by their first and last.
use Rattle.std.specs.Prelude.{◌≡◌, ◌<◌, ◌≤◌, ◌⊎◌, ◌==◌, ◌^◌, ◌+◌, ◌-◌, ℕ, List, Option, Some, None}
use Rattle.std.specs.List.{before_first, after_first}
use Rattle.std.specs.Str.Parse.{IsNumeral, digits_value, without_leading_plus}

-- there are no such lines: the first is 0, or behind the last
abbrev pub AreNone : ℕ → ℕ → Type 0
AreNone first last = (first ≡ 0) ⊎ (last < first)

-- how many lines there are from the one to the other
abbrev pub count_of : ℕ → ℕ → ℕ
count_of first last = last + 1 - first

-- from the one place to before the other there is no more than was asked for; no public promise rests on it
abbrev pub IsWithin : ℕ → ℕ → Option ℕ → Type 0
IsWithin first end None = Unit {0}
IsWithin first end (Some count) = end ≤ first + count

-- a word is a number in decimal digits, where 64 bits hold it; a plus may stand before them
abbrev pub number_of : List ℕ → ℕ
number_of word = digits_value 10 (without_leading_plus word)

abbrev pub IsNumber : List ℕ → Type 0
IsNumber word = IsNumeral 10 (without_leading_plus word) × (number_of word < 2 ^ 64)

-- what stands before a text's first `-`, and behind it
abbrev pub first_word : List ℕ → List ℕ
first_word text = before_first (λ b. b == 45) text

abbrev pub last_word : List ℕ → List ℕ
last_word text = after_first (λ b. b == 45) text

-- a text tells lines, as `40-60` does: two numbers with a `-` between them, of which the first is 1 or more, and the last isn't below it
pub record TellsLines (text : List ℕ) : Type 0 where
  pub has_first : IsNumber (first_word text)
  pub has_last : IsNumber (last_word text)
  pub some : 0 < number_of (first_word text)
  pub ordered : number_of (first_word text) ≤ number_of (last_word text)

-- how many lines such a text tells
abbrev pub count_told : List ℕ → ℕ
count_told text = count_of (number_of (first_word text)) (number_of (last_word text))
