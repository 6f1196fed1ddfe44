-- Working file: what stands first on a packed tape, and what the readers say of it. Where nothing of the kind stands there, they
-- say nothing.
use Rattle.std.specs.Prelude.{◌≡◌, ℕ, ℤ, pos, negsuc, ◌-◌, ◌*◌, ◌==◌, nat_lt, true, if◌then◌else◌}
use Rattle.std.specs.Prelude.{List, ◌++◌, map, length, slice_index}
use Rattle.std.specs.List.{range_with_len}
use Rattle.std.specs.Int.{from_le_bytes, Width, w16, w32, w64}
use Rattle.fl_interface.specs.declared.interface.Scalar.{Scalar}
use Rattle.fl_interface.specs.Interface.{TheType, TheArgType}
use Rattle.fl_value_data.specs.declared.value.Value.{Value}
use Rattle.fl_value_data.specs.Value.{Datum, datum_of}
use Rattle.fl_value_data.specs.Fits.{how_many_below, has_type, is_argument}
use Rattle.fl_value_data.specs.Taken.{InTurn}
use Rattle.fl_value_tape.specs.Packed.{value_packed, argument_packed}

-- ---- numbers

-- the number that so many bytes are; 0 where there are fewer
abbrev pub number_in : Width → ℕ → List ℕ → ℕ
number_in w bytes tape = if nat_lt (length tape) bytes then 0 else from_le_bytes w (map (slice_index tape) (range_with_len 0 bytes))

abbrev pub byte_in : List ℕ → ℕ
byte_in tape = if nat_lt (length tape) 1 then 0 else slice_index tape 0

-- in 1, 2, 4 or 8 bytes
abbrev pub first_number : ℕ → List ℕ → ℕ
first_number width tape =
    if width == 1 then byte_in tape
    else if width == 2 then number_in w16 2 tape
    else if width == 4 then number_in w32 4 tape
    else number_in w64 8 tape

-- the number of these bits in two's complement, where half of the numbers are below 0; 0 where none has them
abbrev pub signed_of : ℕ → ℕ → ℤ
signed_of half bits =
    if nat_lt bits half then pos bits
    else if nat_lt bits (2 * half) then negsuc (2 * half - 1 - bits)
    else pos 0

-- that of a scalar of which so many are below 0
abbrev pub number_with : ℕ → ℕ → ℤ
number_with half bits = if half == 0 then pos bits else signed_of half bits

abbrev pub scalar_of : Scalar → ℕ → ℤ
scalar_of s bits = number_with (how_many_below s) bits

-- ---- values and arguments

-- a value of the type, packed, and then the rest
pub record PackedValueAt (t : TheType) (tape : List ℕ) (d : Datum) (rest : List ℕ) : Type 0 where
  pub typed : has_type t d ≡ true
  pub prefix : tape ≡ value_packed t d ++ rest

-- an argument of the type
pub record PackedArgumentAt (t : TheArgType) (tape : List ℕ) (d : Datum) (rest : List ℕ) : Type 0 where
  pub typed : is_argument t d ≡ true
  pub prefix : tape ≡ argument_packed t d ++ rest

-- nothing else stands there, nor before another rest
abbrev pub OnlyOne : {B : Type 0} → (B → List ℕ → Type 0) → B → List ℕ → Type 0
OnlyOne {B = B} At b rest = (c : B) (end : List ℕ) → At c end → (b ≡ c) × (rest ≡ end)

-- behind values that were read before, up to a tape: the arguments of these types
abbrev pub MoreOnly : List Value → List ℕ → List TheArgType → List Value → List ℕ → Type 0
MoreOnly before tape types values rest =
    (done : List TheArgType) (whole : List ℕ) → OnlyOne (InTurn PackedArgumentAt done whole) (map datum_of before) tape
    → OnlyOne (InTurn PackedArgumentAt (done ++ types) whole) (map datum_of values) rest
