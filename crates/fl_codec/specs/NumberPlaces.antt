-- Messages of few numbers, and where the numbers of a call stand in its fragment.
use Rattle.std.specs.Prelude.{ℕ, ◌+◌, ◌-◌, ◌*◌, ◌/◌, ◌%◌, ◌^◌, ◌&&◌, nat_le, Bool, true, false}
use Rattle.std.specs.Prelude.{List, [], ◌∷◌, length, Option, Some, None}
use Rattle.std.specs.List.{list_all}
use Rattle.fl_interface.specs.Interface.{scalar, enumeration, TheArgType, fixed, text, sized, TheMessage}
use Rattle.fl_interface.specs.Sizes.{size_of, round_up}
use Rattle.fl_value_data.specs.Fits.{least_above, how_many_below}
use Rattle.fl_codec.specs.declared.place.NumberPlace.{NumberPlace}

-- a number's type: a scalar, or an enum of 1 to 2 ^ 32 enumerators, which each enum of an interface in memory is
abbrev pub is_number : TheArgType → Bool
is_number (fixed (scalar s)) = true
is_number (fixed (enumeration n)) = nat_le 1 n && nat_le n (2 ^ 32)
is_number t = false

-- a message of at most seven arguments, each of which is a number: so each of its calls is one fragment
abbrev pub has_few_numbers : Option TheMessage → Bool
has_few_numbers None = false
has_few_numbers (Some m) = nat_le (length m.args) 7 && list_all is_number m.args

-- how many values a number's type has
abbrev pub how_many_values : TheArgType → ℕ
how_many_values (fixed (scalar s)) = least_above s + how_many_below s
how_many_values (fixed (enumeration n)) = n
how_many_values t = 0

-- ---- places

-- the bytes of a number, which are its alignment too
abbrev pub width_of : TheArgType → ℕ
width_of (fixed t) = size_of t
width_of (text most) = 0
width_of (sized most t) = 0

-- a number of this type from a byte of the payload on: its word, the bit there from which on it stands, and the last
-- number that it may be, as a tape has it
abbrev pub place_at : ℕ → TheArgType → NumberPlace
place_at at t = record { word = at / 8; shift = 8 * (at % 8); last = how_many_values t - 1 }

-- numbers of these types, one after another behind a byte, each at the next multiple of its width
abbrev pub places_behind : ℕ → List TheArgType → List NumberPlace
places_behind end [] = []
places_behind end (t ∷ ts) = place_at (round_up end (width_of t)) t ∷ places_behind (round_up end (width_of t) + width_of t) ts
