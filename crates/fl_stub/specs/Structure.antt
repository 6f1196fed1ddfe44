-- The structure of code: blocks of pieces. A piece is one instruction or a loop over a block, so loops are
-- balanced by form, and a length stands directly before a loop and nowhere else.
use Rattle.std.specs.Prelude.{◌≡◌, ℕ, suc, ◌≤◌, ◌&&◌, ◌||◌, ◌==◌, nat_le, max, Bool, true, false, List, [], ◌∷◌, ◌++◌}
use Rattle.fl_stub.specs.declared.op.Op.{Op}
use Rattle.fl_stub.specs.declared.op.Op.TheVariants.{Emit, Pad, Align, Length, Times, Each, Back, End}
use Rattle.fl_stub.specs.declared.op.Op.TheVariants.{Read, ReadBool, ReadEnum, ReadChar, Skip, ReadLength, ReadText, Done}
use Rattle.fl_stub.specs.declared.op.Column.{Column}
use Rattle.fl_stub.specs.declared.op.Column.TheVariants.{Send, Receive}

mutual
  -- one instruction; a block so many times; a length of at most so many, and a block as often as it says
  pub data Piece : Type 0 where
    one : Op → Piece
    times : ℕ → Block → Piece
    counted : ℕ → Block → Piece

  pub data Block : Type 0 where
    finished : Block
    next : Piece → Block → Block

-- the bytes that a number may have
abbrev pub is_width : ℕ → Bool
is_width n = (n == 1) || (n == 2) || (n == 4) || (n == 8)

abbrev pub is_within : ℕ → ℕ → Bool
is_within most n = nat_le 1 n && nat_le n most

-- the operand of an instruction is in its range
abbrev pub is_operand_within : Op → Bool
is_operand_within (Emit n) = is_width n
is_operand_within (Read n) = is_width n
is_operand_within (Pad n) = is_within 7 n
is_operand_within (Skip n) = is_within 7 n
is_operand_within (Length n) = is_within 4096 n
is_operand_within (ReadLength n) = is_within 4096 n
is_operand_within (Times n) = is_within 1024 n
is_operand_within (ReadEnum n) = nat_le 1 n
is_operand_within op = true

-- the instructions of a column that are no loops, with their operands in range
abbrev pub is_step : Column → Op → Bool
is_step Send (Emit n) = is_width n
is_step Send (Pad n) = is_within 7 n
is_step Receive (Read n) = is_width n
is_step Receive ReadBool = true
is_step Receive (ReadEnum n) = is_within 4294967296 n
is_step Receive ReadChar = true
is_step Receive ReadText = true
is_step Receive (Skip n) = is_within 7 n
is_step column Align = true
is_step column op = false

-- the instruction for a length of at most so many
abbrev pub length_op : Column → ℕ → Op
length_op Send most = Length most
length_op Receive most = ReadLength most

-- the instruction at the end of code
abbrev pub last_op : Column → Op
last_op Send = End
last_op Receive = Done

-- the instructions of a block, in order
abbrev mutual
  pub piece_ops : Column → Piece → List Op
  piece_ops column (one op) = op ∷ []
  piece_ops column (times n b) = Times n ∷ (block_ops column b ++ Back ∷ [])
  piece_ops column (counted most b) = length_op column most ∷ Each ∷ (block_ops column b ++ Back ∷ [])

  pub block_ops : Column → Block → List Op
  block_ops column finished = []
  block_ops column (next p b) = piece_ops column p ++ block_ops column b

-- loops of 1 to 1,024 turns, lengths of at most 1 to 4,096, and steps of the column
abbrev mutual
  pub piece_fits : Column → Piece → Bool
  piece_fits column (one op) = is_step column op
  piece_fits column (times n b) = is_within 1024 n && block_fits column b
  piece_fits column (counted most b) = is_within 4096 most && block_fits column b

  pub block_fits : Column → Block → Bool
  block_fits column finished = true
  block_fits column (next p b) = piece_fits column p && block_fits column b

-- how deep loops go
abbrev mutual
  pub piece_depth : Piece → ℕ
  piece_depth (one op) = 0
  piece_depth (times n b) = suc (block_depth b)
  piece_depth (counted most b) = suc (block_depth b)

  pub block_depth : Block → ℕ
  block_depth finished = 0
  block_depth (next p b) = max (piece_depth p) (block_depth b)

-- code of a column with this structure
pub record IsCode (column : Column) (ops : List Op) (block : Block) : Type 0 where
  pub ops_are : ops ≡ block_ops column block ++ last_op column ∷ []
  pub fits : block_fits column block ≡ true
  pub depth : block_depth block ≤ 8

-- code has one structure, and is of one column
abbrev pub OneStructure : Type 0
OneStructure = (ops : List Op) (column column2 : Column) (block block2 : Block)
    → IsCode column ops block → IsCode column2 ops block2 → (column ≡ column2) × (block ≡ block2)
