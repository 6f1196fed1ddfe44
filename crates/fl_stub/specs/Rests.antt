-- Working file, for machines: what is left of receive code, as a tree. It has the next bytes that are one number or zeros,
-- and for each number in them what is left after it. Code is turned into such a tree once (`rest_block`); its meaning,
-- what it gives and its marks can all be read off the tree, and a machine that stands in code knows the tree that is left.
use Rattle.std.specs.Prelude.{◌≡◌, ℕ, zero, suc, ◌+◌, ◌<◌, ◌≤◌, ◌^◌, ◌%◌, ◌==◌, Bool, true, false, List, [], ◌∷◌, ◌++◌, length, drop, replicate, Some}
use Rattle.fl_stub.specs.declared.op.Op.{Op}
use Rattle.fl_stub.specs.declared.op.Op.TheVariants.{Align, Times, Back, ReadLength}
use Rattle.fl_stub.specs.declared.op.Column.{Column}
use Rattle.fl_stub.specs.declared.op.Column.TheVariants.{Receive}
use Rattle.fl_stub.specs.declared.walk.WalkState.TheVariants.{Inside}
use Rattle.fl_stub.specs.declared.mark.ByteKind.{ByteKind}
use Rattle.fl_stub.specs.declared.mark.ByteKind.TheVariants.{Length, Number, Zero}
use Rattle.fl_stub.specs.Structure.{Piece, one, times, counted, Block, finished, next, is_step, is_within}
use Rattle.fl_stub.specs.Frames.{frames_of, innermost, block_of}
use Rattle.fl_stub.specs.Meaning.{OpMove, number, zeros, zeros_to_8, move_of, gap_to_8, number_bytes, StubMoment, moment_first}
use Rattle.fl_stub.specs.Given.{first_of_tape, rest_of_tape}
use Rattle.fl_stub.specs.Walk.{accepts}
use Rattle.fl_stub.specs.Locations.{TheLoop, outer}
use Rattle.fl_stub.specs.Streams.{Follows}

-- bytes that are one number, from a least one on and below a bound, and whether it is put on the tape; zeros are a
-- number below 1 that isn't
pub record TheField : Type 0 where
  pub mark : ByteKind
  pub width : ℕ
  pub least : ℕ
  pub bound : ℕ
  pub told : Bool

pub data Rest : Type 0 where
  no_more : Rest
  goes_by : Rest → Rest
  takes : TheField → (ℕ → Rest) → Rest

abbrev pub zeros_field : ℕ → TheField
zeros_field count = record { mark = Zero; width = count; least = 0; bound = 1; told = false }

-- what a move takes at a place
abbrev pub field_of : OpMove → ℕ → TheField
field_of (number width least bound) at = record { mark = Number; width = width; least = least; bound = bound; told = true }
field_of (zeros count) at = zeros_field count
field_of zeros_to_8 at = zeros_field (gap_to_8 at)

abbrev pub length_field : ℕ → TheField
length_field most = record { mark = Length; width = 8; least = 0; bound = most + 1; told = true }

-- a field, and then what is left behind it
abbrev pub rest_field : TheField → (ℕ → Rest) → ℕ → Rest
rest_field f k at = takes f (λ x. k (at + f.width))

-- so many turns, with an end of each
abbrev pub rest_turns : ((ℕ → Rest) → ℕ → Rest) → ℕ → (ℕ → Rest) → ℕ → Rest
rest_turns f zero k at = k at
rest_turns f (suc n) k at = f (λ at. goes_by (rest_turns f n k at)) at

abbrev mutual
  pub rest_piece : Piece → (ℕ → Rest) → ℕ → Rest
  rest_piece (one op) k at = rest_field (field_of (move_of op) at) k at
  rest_piece (times n b) k at = goes_by (rest_turns (rest_block b) n k at)
  rest_piece (counted most b) k at = takes (length_field most) (λ x. rest_turns (rest_block b) x k (at + 8))

  pub rest_block : Block → (ℕ → Rest) → ℕ → Rest
  rest_block finished k at = k at
  rest_block (next p b) k at = rest_piece p (rest_block b k) at

abbrev pub rest_end : ℕ → Rest
rest_end at = no_more

-- all of code
abbrev pub rest_all : Block → Rest
rest_all b = rest_block b rest_end 0

-- after the end of a block that stands in these blocks: the loop's other turns, then the rest of the block around it
abbrev pub rest_after : List Op → List Block → List TheLoop → ℕ → Rest
rest_after ops blocks [] at = no_more
rest_after ops blocks (l ∷ loops) at =
    goes_by (rest_turns (rest_block (block_of (drop l.start ops))) l.turns (rest_block (innermost blocks) (rest_after ops (outer blocks) loops)) at)

-- inside open loops: the rest of the innermost block, and what comes after it
abbrev pub rest_open : List Op → List Block → List TheLoop → ℕ → Rest
rest_open ops blocks loops at = rest_block (innermost blocks) (rest_after ops (outer blocks) loops) at

-- what is left from an instruction on, in loops, at a place in the payload
abbrev pub rest_from : List Op → ℕ → List TheLoop → ℕ → Rest
rest_from ops place loops at = rest_open ops (frames_of (drop place ops)) loops at

-- what is left behind a field with this number
abbrev pub left_behind : Rest → ℕ → Rest
left_behind no_more x = no_more
left_behind (goes_by r) x = goes_by r
left_behind (takes f k) x = k x

-- the instructions that take bytes, and what they take
abbrev pub is_taken : Op → Bool
is_taken (ReadLength most) = is_within 4096 most
is_taken op = is_step Receive op

abbrev pub taken_field : Op → ℕ → TheField
taken_field (ReadLength most) at = length_field most
taken_field op at = field_of (move_of op) at

-- the instructions that are passed without a byte, at a place modulo 8
abbrev pub is_silent : Op → ℕ → Bool
is_silent (Times n) phase = true
is_silent Back phase = true
is_silent Align phase = phase % 8 == 0
is_silent op phase = false

-- how many steps there are where all numbers are 0: fewer after each instruction that is passed
abbrev pub steps_left : Rest → ℕ
steps_left no_more = 0
steps_left (goes_by r) = suc (steps_left r)
steps_left (takes f k) = suc (steps_left (k 0))

-- a number before the tape, if it is told
abbrev pub onto : Bool → ℕ → List ℕ → List ℕ
onto true x tape = x ∷ tape
onto false x tape = tape

-- the number as it is put on the tape
abbrev pub told : Bool → ℕ → List ℕ
told true x = x ∷ []
told false x = []

pub record MovesField (f : TheField) (x : ℕ) (m n : StubMoment) : Type 0 where
  pub at_least : f.least ≤ x
  pub below : x < f.bound
  pub tape : m.tape ≡ onto f.told x n.tape
  pub bytes : m.bytes ≡ number_bytes f.width x ++ n.bytes
  pub at : n.at ≡ m.at + f.width

-- what is left turns one moment into another
abbrev pub RestTurns : Rest → StubMoment → StubMoment → Type 0
RestTurns no_more m n = m ≡ n
RestTurns (goes_by r) m n = RestTurns r m n
RestTurns (takes f k) m n = (x : ℕ) × (l : StubMoment) × MovesField f x m l × RestTurns (k x) l n

-- the number that a tape tells, 0 where it lacks; and the tape behind it
abbrev pub told_number : Bool → List ℕ → ℕ
told_number true tape = first_of_tape tape
told_number false tape = 0

abbrev pub told_rest : Bool → List ℕ → List ℕ
told_rest true tape = rest_of_tape tape
told_rest false tape = tape

-- the bytes given for a tape, and their marks
abbrev pub rest_bytes : Rest → List ℕ → List ℕ
rest_bytes no_more tape = []
rest_bytes (goes_by r) tape = rest_bytes r tape
rest_bytes (takes f k) tape = number_bytes f.width (told_number f.told tape) ++ rest_bytes (k (told_number f.told tape)) (told_rest f.told tape)

abbrev pub rest_marks : Rest → List ℕ → List ByteKind
rest_marks no_more tape = []
rest_marks (goes_by r) tape = rest_marks r tape
rest_marks (takes f k) tape = replicate f.width f.mark ++ rest_marks (k (told_number f.told tape)) (told_rest f.told tape)

-- a field that some number fits, and which its bytes tell
pub record IsSound (f : TheField) : Type 0 where
  pub width : f.width ≤ 8
  pub high : f.bound ≤ 256 ^ f.width
  pub some : f.least < f.bound
  pub low : 2 ≤ f.width → f.least ≡ 0
  pub unacknowledged : f.told ≡ false → f.bound ≡ 1

-- all fields are so
abbrev pub AllSound : Rest → Type 0
AllSound no_more = Unit {0}
AllSound (goes_by r) = AllSound r
AllSound (takes f k) = IsSound f × ((x : ℕ) → f.least ≤ x → x < f.bound → AllSound (k x))

-- a payload that begins with the bytes done goes on where the rest stands
pub record GoesFrom (r : Rest) (taken done tape full : List ℕ) (n : StubMoment) : Type 0 where
  pub m : StubMoment
  pub at : m.at ≡ length done
  pub tape_is : tape ≡ taken ++ m.tape
  pub full_is : full ≡ done ++ m.bytes
  pub turns : RestTurns r m n

-- between the whole tree and what is left of it lie these numbers and bytes, and no others
pub record Reaches (whole r : Rest) (taken done : List ℕ) : Type 0 where
  pub to : (m n : StubMoment) → m.at ≡ length done → RestTurns r m n → RestTurns whole (moment_first (taken ++ m.tape) (done ++ m.bytes)) n
  pub from : (tape full : List ℕ) (n : StubMoment) → RestTurns whole (moment_first tape full) n → Follows (length done) done full
      → GoesFrom r taken done tape full n
  pub gives : (tape : List ℕ) → rest_bytes whole (taken ++ tape) ≡ done ++ rest_bytes r tape
  pub marks : (tape : List ℕ) → drop (length done) (rest_marks whole (taken ++ tape)) ≡ rest_marks r tape
  pub sound : AllSound r

-- what reaches the one reaches the other
abbrev pub LeadsTo : Rest → Rest → Type 0
LeadsTo r s = (whole : Rest) (taken done : List ℕ) → Reaches whole r taken done → Reaches whole s taken done

-- so many bytes of the next field, and the number that they are
pub record IsPartOfField (r : Rest) (have value : ℕ) : Type 0 where
  pub field : TheField
  pub after : ℕ → Rest
  pub is : r ≡ takes field after
  pub less : have < field.width
  pub below : value < field.bound
  pub small : value < 256 ^ have

-- a place of a column's code inside so many loops
abbrev pub IsPlaceIn : Column → List Op → ℕ → ℕ → Type 0
IsPlaceIn column ops depth place = accepts column (Some (Inside depth)) (drop place ops) ≡ true

-- each loop begins inside as many loops as it is deep, and what stands around it is the same at its beginning
abbrev pub ReceiveLoops : List Op → List Block → List TheLoop → Type 0
ReceiveLoops ops blocks [] = Unit {0}
ReceiveLoops ops blocks (l ∷ loops) =
    IsPlaceIn Receive ops (length (l ∷ loops)) l.start × (outer (frames_of (drop l.start ops)) ≡ blocks) × ReceiveLoops ops (outer blocks) loops

-- a place of receive code, in open loops
pub record IsStance (ops : List Op) (next : ℕ) (open_loops : List TheLoop) : Type 0 where
  pub depth : length open_loops ≤ 8
  pub place : IsPlaceIn Receive ops (length open_loops) next
  pub loops : ReceiveLoops ops (outer (frames_of (drop next ops))) open_loops
