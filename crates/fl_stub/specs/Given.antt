-- What send code gives, as a function: the bytes, and where it comes to. Numbers that the tape lacks are 0, so the
-- function is total; wherever the meaning turns a tape into bytes, they agree (`Agrees`).
use Rattle.std.specs.Prelude.{◌≡◌, ℕ, zero, suc, ◌+◌, List, [], ◌∷◌, ◌++◌, replicate}
use Rattle.fl_stub.specs.Structure.{Piece, one, times, counted, Block, finished, next}
use Rattle.fl_stub.specs.Meaning.{OpMove, number, zeros, zeros_to_8, move_of, number_bytes, gap_to_8, StubMoment, BlockTurns, Turns}

-- bytes, the place after them and the tape that is left there, and how many instructions a machine goes through
pub record Given : Type 0 where
  pub bytes : List ℕ
  pub at : ℕ
  pub tape : List ℕ
  pub steps : ℕ

-- something that is given from a place on, with a tape
abbrev pub Giver : Type 0
Giver = ℕ → List ℕ → Given

abbrev pub first_of_tape : List ℕ → ℕ
first_of_tape [] = 0
first_of_tape (x ∷ tape) = x

abbrev pub rest_of_tape : List ℕ → List ℕ
rest_of_tape [] = []
rest_of_tape (x ∷ tape) = tape

abbrev pub nothing_given : Giver
nothing_given at tape = record { bytes = []; at = at; tape = tape; steps = 0 }

-- one thing and then another
abbrev pub then_given : Given → Giver → Given
then_given g f = record {
  bytes = g.bytes ++ (f g.at g.tape).bytes;
  at = (f g.at g.tape).at;
  tape = (f g.at g.tape).tape;
  steps = g.steps + (f g.at g.tape).steps;
}

abbrev pub number_given : ℕ → Giver
number_given width at tape =
    record { bytes = number_bytes width (first_of_tape tape); at = at + width; tape = rest_of_tape tape; steps = 1 }

abbrev pub zeros_given : ℕ → Giver
zeros_given count at tape = record { bytes = replicate count 0; at = at + count; tape = tape; steps = 1 }

abbrev pub move_given : OpMove → Giver
move_given (number width least bound) at tape = number_given width at tape
move_given (zeros count) at tape = zeros_given count at tape
move_given zeros_to_8 at tape = zeros_given (gap_to_8 at) at tape

-- the end of a turn of a loop
abbrev pub turn_given : Giver
turn_given at tape = record { bytes = []; at = at; tape = tape; steps = 1 }

-- so many turns
abbrev pub turns_given : Giver → ℕ → Giver
turns_given f zero at tape = nothing_given at tape
turns_given f (suc k) at tape = then_given (then_given (f at tape) turn_given) (turns_given f k)

abbrev mutual
  pub piece_given : Piece → Giver
  piece_given (one op) at tape = move_given (move_of op) at tape
  piece_given (times k b) at tape = then_given (turn_given at tape) (turns_given (block_given b) k)
  piece_given (counted most b) at tape = then_given (number_given 8 at tape) (turns_given (block_given b) (first_of_tape tape))

  pub block_given : Block → Giver
  block_given finished at tape = nothing_given at tape
  block_given (next p b) at tape = then_given (piece_given p at tape) (block_given b)

-- what is given is what the meaning moves
pub record Agrees (g : Given) (m n : StubMoment) : Type 0 where
  pub bytes : m.bytes ≡ g.bytes ++ n.bytes
  pub at : g.at ≡ n.at
  pub tape : g.tape ≡ n.tape

-- wherever code turns one moment into another, that is given
abbrev pub GivesWhatTurns : Type 0
GivesWhatTurns = (b : Block) (m n : StubMoment) → BlockTurns b m n → Agrees (block_given b m.at m.tape) m n

-- all that code gives for a tape
abbrev pub bytes_given : Block → List ℕ → List ℕ
bytes_given b tape = (block_given b 0 tape).bytes

-- code turns a tape into no bytes but those given
abbrev pub TurnsIntoGiven : Type 0
TurnsIntoGiven = (b : Block) (tape bytes : List ℕ) → Turns b tape bytes → bytes_given b tape ≡ bytes
