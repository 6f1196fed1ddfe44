-- What is left of code at a place: the rest of each block that is open there, the innermost first. A machine
-- that stands there and knows how many more turns each open loop makes needs to know nothing else.
use Rattle.std.specs.Prelude.{List, [], ◌∷◌}
use Rattle.fl_stub.specs.declared.op.Op.{Op}
use Rattle.fl_stub.specs.declared.op.Op.TheVariants.{Length, Times, Each, Back, End, ReadLength, Done}
use Rattle.fl_stub.specs.Structure.{Piece, one, times, counted, Block, finished, next}

-- a piece before the innermost block
abbrev pub starts_with : Piece → List Block → List Block
starts_with p [] = []
starts_with p (b ∷ outer) = next p b ∷ outer

-- the innermost block is the body of a loop in the one around it
abbrev pub closes : (Block → Piece) → List Block → List Block
closes loop [] = []
closes loop (body ∷ outer) = starts_with (loop body) outer

-- the rests of the open blocks, by what is left of the instructions
abbrev pub frames_of : List Op → List Block
frames_of [] = []
frames_of (End ∷ ops) = finished ∷ []
frames_of (Done ∷ ops) = finished ∷ []
frames_of (Back ∷ ops) = finished ∷ frames_of ops
frames_of (Times n ∷ ops) = closes (times n) (frames_of ops)
frames_of (Length most ∷ ops) = closes (counted most) (frames_of ops)
frames_of (ReadLength most ∷ ops) = closes (counted most) (frames_of ops)
frames_of (Each ∷ ops) = frames_of ops
frames_of (op ∷ ops) = starts_with (one op) (frames_of ops)

-- the innermost block
abbrev pub innermost : List Block → Block
innermost [] = finished
innermost (b ∷ outer) = b

-- the structure of code
abbrev pub block_of : List Op → Block
block_of ops = innermost (frames_of ops)
