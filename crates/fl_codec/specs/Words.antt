-- Working definitions of the code: numbers put at their places in words, and taken from there.
use Rattle.std.specs.Prelude.{◌≡◌, ◌<◌, ℕ, ◌-◌, ◌*◌, ◌/◌, ◌%◌, ◌^◌, ◌==◌, ◌&&◌, nat_lt, nat_le, Bool, if◌then◌else◌}
use Rattle.std.specs.Prelude.{List, [], ◌∷◌, length, slice_index, slice_set, bit_or, Option, Some, None}
use Rattle.std.specs.List.{list_all}
use Rattle.fl_base.specs.Given.{given}
use Rattle.fl_codec.specs.declared.place.NumberPlace.{NumberPlace}

-- a place within a fragment's words
abbrev pub is_inside : NumberPlace → Bool
is_inside p = nat_lt p.word 7 && nat_lt p.shift 64

-- the words with a number at its place too
abbrev pub put : NumberPlace → ℕ → List ℕ → List ℕ
put p n words = slice_set words p.word (bit_or (slice_index words p.word) (n * 2 ^ p.shift % 2 ^ 64))

-- the words with a number at each place too; none where there are not as many, or one is past the last of its place
abbrev pub filled : List NumberPlace → List ℕ → List ℕ → Option (List ℕ)
filled [] [] words = Some words
filled [] (n ∷ ns) words = None
filled (p ∷ ps) [] words = None
filled (p ∷ ps) (n ∷ ns) words = if nat_le n p.last then filled ps ns (put p n words) else None

-- the number at a place, with all that stands above it in its word
abbrev pub from_place_on : NumberPlace → List ℕ → ℕ
from_place_on p words = slice_index words p.word / 2 ^ p.shift

-- the words without it
abbrev pub without : NumberPlace → List ℕ → List ℕ
without p words = slice_set words p.word (slice_index words p.word - from_place_on p words * 2 ^ p.shift % 2 ^ 64)

-- numbers that were taken from their places, and what is left of the words
pub record Emptied : Type 0 where
  pub numbers : List ℕ
  pub left : List ℕ

-- one number more taken, which goes before the others; none where it is past the last of its place
abbrev pub taken_one : NumberPlace → Emptied → Option Emptied
taken_one p t = if nat_le (from_place_on p t.left) p.last then Some (record { numbers = from_place_on p t.left ∷ t.numbers; left = without p t.left }) else None

-- the numbers at these places, in their order, taken from the last place on; none where one is past the last of its place
abbrev pub taken : List NumberPlace → List ℕ → Option Emptied
taken [] words = Some (record { numbers = []; left = words })
taken (p ∷ ps) words = given (taken ps words) None (taken_one p)

-- the numbers that fill these words, with zeros elsewhere; none where no numbers do
abbrev pub numbers_filling : List NumberPlace → List ℕ → Option (List ℕ)
numbers_filling ps words = given (taken ps words) None (λ t. if list_all (λ w. w == 0) t.left then Some t.numbers else None)

-- seven words of 64 bits
pub record AreWords (words : List ℕ) : Type 0 where
  pub seven : length words ≡ 7
  pub small : (i : ℕ) → slice_index words i < 2 ^ 64
