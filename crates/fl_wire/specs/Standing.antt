-- What a reader of fragments knows: their bytes, the leaves that stand under others, and numbers by their bits.
use Rattle.std.specs.Prelude.{◌≡◌, ◌≢◌, ℕ, ℤ, pos, ◌-ℤ◌, ◌-◌, ◌*◌, ◌/◌, ◌%◌, ◌^◌, ◌<◌, ◌≤◌, ◌&&◌}
use Rattle.std.specs.Prelude.{nat_lt, nat_le, if◌then◌else◌, Bool, List, ◌++◌, [], map, slice_index, slice_get, Option, Some, None}
use Rattle.std.specs.List.{list_all}
use Rattle.std.specs.Int.{byte_at}
use Rattle.fl_base.specs.declared.fragment.Frag.{Frag}
use Rattle.fl_interface.specs.Interface.{scalar, TheArgType, fixed}
use Rattle.fl_value_data.specs.Fits.{is_argument, is_signed, scalar_bits}
use Rattle.fl_value_data.specs.Tape.{Argument}
use Rattle.fl_layout.specs.Leaves.{Leaf, bits_of}
use Rattle.fl_wire.specs.Widths.{number_width, number_of}

-- some leaves stand under others
pub record SplitLeaves (low high : List Leaf) : Type 0 where
  pub more : List Leaf
  pub is : high ≡ more ++ low

-- the arguments' types
abbrev pub firsts : List Argument → List TheArgType
firsts args = map (λ (a : Argument). a.0) args

-- each argument has its type
abbrev pub fitting : List Argument → Bool
fitting args = list_all (λ (a : Argument). is_argument a.0 a.1) args

-- the payload words of a fragment; none past the last fragment
abbrev pub words_in : Option Frag → List ℕ
words_in None = []
words_in (Some f) = f.words

-- payload word w of some fragments; 0 past their end
abbrev pub word_in : List Frag → ℕ → ℕ
word_in frags w = slice_index (words_in (slice_get frags (w / 7))) (w % 7)

-- payload byte p of some fragments; 0 past their end
abbrev pub byte_in : List Frag → ℕ → ℕ
byte_in frags p = byte_at (p % 8) (slice_index (words_in (slice_get frags (p / 56))) (p / 8 % 7))

-- the first byte of some that isn't 0
pub record FirstNonzero (frags : List Frag) (at end : ℕ) : Type 0 where
  pub p : ℕ
  pub after : at ≤ p
  pub before : p < end
  pub nonzero : byte_in frags p ≢ 0
  pub zeros : (q : ℕ) → at ≤ q → q < p → byte_in frags q ≡ 0

-- a number argument's bits
abbrev pub raw_of : Argument → ℕ
raw_of a = bits_of (number_width a.0) (number_of a.1)

-- the numbers from this one on stand for those below 0; 0 for types without a sign
abbrev pub signed_half : TheArgType → ℕ
signed_half (fixed (scalar s)) = if is_signed s then 2 ^ (scalar_bits s - 1) else 0
signed_half t = 0

-- the number that has these bits
abbrev pub number_back : TheArgType → ℕ → ℤ
number_back t bits = if nat_lt 0 (signed_half t) && nat_le (signed_half t) bits then pos bits -ℤ pos (2 * signed_half t) else pos bits
