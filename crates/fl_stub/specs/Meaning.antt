-- The meaning of code, by structure: what it moves between a tape (a call's numbers and lengths) and a payload.
-- One relation serves both columns: send code is given the tape, receive code the bytes.
use Rattle.std.specs.Prelude.{◌≡◌, ℕ, zero, suc, ◌+◌, ◌-◌, ◌%◌, ◌^◌, ◌<◌, ◌≤◌, true, List, [], ◌∷◌, ◌++◌, length, replicate}
use Rattle.std.specs.Int.{bytes_low_first}
use Rattle.fl_stub.specs.declared.op.Op.{Op}
use Rattle.fl_stub.specs.declared.op.Column.{Column}
use Rattle.fl_stub.specs.declared.op.Op.TheVariants.{Emit, Pad, Align, Read, ReadBool, ReadEnum, ReadChar, Skip, ReadText}
use Rattle.fl_stub.specs.Structure.{Piece, one, times, counted, Block, finished, next, block_fits}

-- a place in the payload, the numbers of the tape that are left there, and the bytes from there on
pub record StubMoment : Type 0 where
  pub at : ℕ
  pub tape : List ℕ
  pub bytes : List ℕ

-- a number in so many bytes, little-endian
abbrev pub number_bytes : ℕ → ℕ → List ℕ
number_bytes width x = bytes_low_first 0 width x

-- the zeros from a place up to a multiple of 8
abbrev pub gap_to_8 : ℕ → ℕ
gap_to_8 at = (8 - at % 8) % 8

-- what an instruction moves: a number in so many bytes, from a least one on and below a bound; so many zeros;
-- zeros up to a multiple of 8
pub data OpMove : Type 0 where
  number : (width least bound : ℕ) → OpMove
  zeros : ℕ → OpMove
  zeros_to_8 : OpMove

-- loops and ends move nothing by themselves
abbrev pub move_of : Op → OpMove
move_of (Emit width) = number width 0 (256 ^ width)
move_of (Read width) = number width 0 (256 ^ width)
move_of ReadBool = number 1 0 2
move_of (ReadEnum count) = number 4 0 count
move_of ReadChar = number 1 0 256
move_of ReadText = number 1 1 256
move_of (Pad count) = zeros count
move_of (Skip count) = zeros count
move_of Align = zeros_to_8
move_of op = zeros 0

-- the next number of the tape, and as many bytes
pub record MovesNumber (width least bound x : ℕ) (m n : StubMoment) : Type 0 where
  pub at_least : least ≤ x
  pub below : x < bound
  pub tape : m.tape ≡ x ∷ n.tape
  pub bytes : m.bytes ≡ number_bytes width x ++ n.bytes
  pub at : n.at ≡ m.at + width

pub record MovesZeros (count : ℕ) (m n : StubMoment) : Type 0 where
  pub tape : m.tape ≡ n.tape
  pub bytes : m.bytes ≡ replicate count 0 ++ n.bytes
  pub at : n.at ≡ m.at + count

abbrev pub Moves : OpMove → StubMoment → StubMoment → Type 0
Moves (number width least bound) m n = (x : ℕ) × MovesNumber width least bound x m n
Moves (zeros count) m n = MovesZeros count m n
Moves zeros_to_8 m n = MovesZeros (gap_to_8 m.at) m n

-- so many times, one after another
abbrev pub Repeats : (StubMoment → StubMoment → Type 0) → ℕ → StubMoment → StubMoment → Type 0
Repeats R zero m n = m ≡ n
Repeats R (suc k) m n = (l : StubMoment) × R m l × Repeats R k l n

abbrev mutual
  pub PieceTurns : Piece → StubMoment → StubMoment → Type 0
  PieceTurns (one op) m n = Moves (move_of op) m n
  PieceTurns (times k b) m n = Repeats (BlockTurns b) k m n
  PieceTurns (counted most b) m n = (x : ℕ) × (l : StubMoment) × MovesNumber 8 0 (most + 1) x m l × Repeats (BlockTurns b) x l n

  pub BlockTurns : Block → StubMoment → StubMoment → Type 0
  BlockTurns finished m n = m ≡ n
  BlockTurns (next p b) m n = (l : StubMoment) × PieceTurns p m l × BlockTurns b l n

-- before the first byte
abbrev pub moment_first : List ℕ → List ℕ → StubMoment
moment_first tape bytes = record { at = 0; tape = tape; bytes = bytes }

-- after the last byte, at this place
abbrev pub moment_last : ℕ → StubMoment
moment_last at = record { at = at; tape = []; bytes = [] }

-- code with this structure turns the tape into the bytes (send), or the bytes into the tape (receive): all of both
abbrev pub Turns : Block → List ℕ → List ℕ → Type 0
Turns b tape bytes = BlockTurns b (moment_first tape bytes) (moment_last (length bytes))

-- send code makes one list of bytes of a tape
abbrev pub OneSending : Type 0
OneSending = (b : Block) (tape bytes bytes2 : List ℕ) → Turns b tape bytes → Turns b tape bytes2 → bytes ≡ bytes2

-- and bytes come from one tape: code that fits its column takes no other from them
abbrev pub OneTaking : Type 0
OneTaking = (column : Column) (b : Block) (tape tape2 bytes : List ℕ) → block_fits column b ≡ true
    → Turns b tape bytes → Turns b tape2 bytes → tape ≡ tape2
