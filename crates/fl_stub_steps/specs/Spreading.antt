-- Packed tapes of code: a tape's numbers side by side, each in as many bytes as its instruction gives, a length in 8. And
-- what code makes of one: a number's bytes are copied, zeros are put between.
use Rattle.std.specs.Prelude.{◌≡◌, ℕ, zero, suc, true, if◌then◌else◌, nat_lt}
use Rattle.std.specs.Prelude.{List, [], ◌++◌, map, take, drop, length, replicate, slice_index}
use Rattle.std.specs.List.{range_with_len}
use Rattle.std.specs.Int.{from_le_bytes, w64}
use Rattle.fl_stub.specs.declared.op.Column.{Column}
use Rattle.fl_stub.specs.Structure.{Piece, one, times, counted, Block, finished, next, block_fits}
use Rattle.fl_stub.specs.Meaning.{OpMove, number, zeros, zeros_to_8, move_of, number_bytes, gap_to_8, Turns}
use Rattle.fl_stub.specs.Given.{first_of_tape, rest_of_tape}

-- ---- the packed tape of a list of numbers

-- bytes, and the numbers that are left
pub record Packing : Type 0 where
  pub bytes : List ℕ
  pub tape : List ℕ

abbrev pub Packer : Type 0
Packer = List ℕ → Packing

abbrev pub nothing_packed : Packer
nothing_packed tape = record { bytes = []; tape = tape }

abbrev pub number_packed : ℕ → Packer
number_packed width tape = record { bytes = number_bytes width (first_of_tape tape); tape = rest_of_tape tape }

abbrev pub then_packed : Packing → Packer → Packing
then_packed p f = record { bytes = p.bytes ++ (f p.tape).bytes; tape = (f p.tape).tape }

abbrev pub move_packed : OpMove → Packer
move_packed (number width least bound) tape = number_packed width tape
move_packed (zeros count) tape = nothing_packed tape
move_packed zeros_to_8 tape = nothing_packed tape

abbrev pub turns_packed : Packer → ℕ → Packer
turns_packed f zero tape = nothing_packed tape
turns_packed f (suc k) tape = then_packed (f tape) (turns_packed f k)

abbrev mutual
  pub piece_packed : Piece → Packer
  piece_packed (one op) tape = move_packed (move_of op) tape
  piece_packed (times k b) tape = turns_packed (block_packed b) k tape
  piece_packed (counted most b) tape = then_packed (number_packed 8 tape) (turns_packed (block_packed b) (first_of_tape tape))

  pub block_packed : Block → Packer
  block_packed finished tape = nothing_packed tape
  block_packed (next p b) tape = then_packed (piece_packed p tape) (block_packed b)

-- the packed tape that code takes, by the tape that it takes
abbrev pub packed_for : Block → List ℕ → List ℕ
packed_for b tape = (block_packed b tape).bytes

-- ---- what is made of it

-- the bytes that are given so far, and those of the packed tape that are left
pub record Spread : Type 0 where
  pub given : List ℕ
  pub left : List ℕ

abbrev pub Spreader : Type 0
Spreader = Spread → Spread

abbrev pub spread_of : List ℕ → List ℕ → Spread
spread_of given left = record { given = given; left = left }

-- so many bytes of the tape
abbrev pub copied : ℕ → Spreader
copied count x = record { given = x.given ++ take count x.left; left = drop count x.left }

-- so many zeros
abbrev pub padded : ℕ → Spreader
padded count x = record { given = x.given ++ replicate count 0; left = x.left }

abbrev pub aligned : Spreader
aligned x = padded (gap_to_8 (length x.given)) x

abbrev pub repeated : Spreader → ℕ → Spreader
repeated f zero x = x
repeated f (suc k) x = repeated f k (f x)

-- the number that the next 8 bytes are; 0 where there are fewer
abbrev pub length_at : List ℕ → ℕ
length_at tape = if nat_lt (length tape) 8 then 0 else from_le_bytes w64 (map (slice_index tape) (range_with_len 0 8))

abbrev pub move_spread : OpMove → Spreader
move_spread (number width least bound) x = copied width x
move_spread (zeros count) x = padded count x
move_spread zeros_to_8 x = aligned x

abbrev mutual
  pub piece_spread : Piece → Spreader
  piece_spread (one op) x = move_spread (move_of op) x
  piece_spread (times k b) x = repeated (block_spread b) k x
  piece_spread (counted most b) x = repeated (block_spread b) (length_at x.left) (copied 8 x)

  pub block_spread : Block → Spreader
  block_spread finished x = x
  block_spread (next p b) x = block_spread b (piece_spread p x)

-- before the first byte
abbrev pub spread_first : List ℕ → Spread
spread_first packed = spread_of [] packed

-- code makes of a tape's packed tape the bytes that it makes of the tape, and leaves none of it
abbrev pub SpreadsPacked : Type 0
SpreadsPacked = (column : Column) (b : Block) (tape bytes : List ℕ) → block_fits column b ≡ true → Turns b tape bytes
    → block_spread b (spread_first (packed_for b tape)) ≡ spread_of bytes []
