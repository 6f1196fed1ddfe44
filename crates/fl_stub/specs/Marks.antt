-- What stands at each byte that code moves: part of a length, part of another number, or a zero.
use Rattle.std.specs.Prelude.{ℕ, zero, suc, ◌+◌, List, [], ◌++◌, replicate, slice_index_or}
use Rattle.fl_stub.specs.declared.mark.ByteKind.{ByteKind}
use Rattle.fl_stub.specs.declared.mark.ByteKind.TheVariants.{Length, Number, Zero}
use Rattle.fl_stub.specs.Structure.{Piece, one, times, counted, Block, finished, next}
use Rattle.fl_stub.specs.Meaning.{OpMove, number, zeros, zeros_to_8, move_of, gap_to_8}
use Rattle.fl_stub.specs.Given.{Giver, first_of_tape, rest_of_tape, piece_given, block_given}

-- the marks of something that is given from a place on, with a tape
abbrev pub Marker : Type 0
Marker = ℕ → List ℕ → List ByteKind

abbrev pub move_marks : OpMove → ℕ → List ByteKind
move_marks (number width least bound) at = replicate width Number
move_marks (zeros count) at = replicate count Zero
move_marks zeros_to_8 at = replicate (gap_to_8 at) Zero

-- so many turns, each of which gives f and is marked by g
abbrev pub turns_marks : Giver → Marker → ℕ → Marker
turns_marks f g zero at tape = []
turns_marks f g (suc k) at tape = g at tape ++ turns_marks f g k (f at tape).at (f at tape).tape

abbrev mutual
  pub piece_marks : Piece → Marker
  piece_marks (one op) at tape = move_marks (move_of op) at
  piece_marks (times k b) at tape = turns_marks (block_given b) (block_marks b) k at tape
  piece_marks (counted most b) at tape =
      replicate 8 Length ++ turns_marks (block_given b) (block_marks b) (first_of_tape tape) (at + 8) (rest_of_tape tape)

  pub block_marks : Block → Marker
  block_marks finished at tape = []
  block_marks (next p b) at tape = piece_marks p at tape ++ block_marks b (piece_given p at tape).at (piece_given p at tape).tape

-- the marks of all bytes that code gives for a tape
abbrev pub marks_of : Block → List ℕ → List ByteKind
marks_of b tape = block_marks b 0 tape

-- what stands at a byte; zeros follow the last
abbrev pub mark_at : List ByteKind → ℕ → ByteKind
mark_at marks p = slice_index_or marks p Zero
