-- Working file, for machines: a location of a run of send code, where it stands in the code, in its loops and on the tape.
-- What the code gives from there on is a function of the location alone.
use Rattle.std.specs.Prelude.{◌≡◌, ℕ, suc, ◌<◌, ◌≤◌, ◌^◌, true, List, [], ◌∷◌, ◌++◌, drop, length, Some}
use Rattle.fl_stub.specs.declared.op.Op.{Op}
use Rattle.fl_stub.specs.declared.op.Column.TheVariants.{Send}
use Rattle.fl_stub.specs.declared.walk.WalkState.TheVariants.{Inside}
use Rattle.fl_stub.specs.Structure.{Block}
use Rattle.fl_stub.specs.Frames.{frames_of, innermost, block_of}
use Rattle.fl_stub.specs.Meaning.{number_bytes}
use Rattle.fl_stub.specs.Walk.{accepts}
use Rattle.fl_stub.specs.Given.{Given, Giver, nothing_given, then_given, turn_given, turns_given, block_given}

-- an open loop: the place of its first instruction, and the turns that it makes after this one
pub record TheLoop : Type 0 where
  pub start : ℕ
  pub turns : ℕ

-- the place of the next instruction, the open loops (the innermost first), the tape that is left, the place in the
-- payload (modulo 8 is enough), and a number of which so many bytes are still to be given before
pub record TheEndLocation : Type 0 where
  pub place : ℕ
  pub loops : List TheLoop
  pub tape : List ℕ
  pub at : ℕ
  pub value : ℕ
  pub width : ℕ

-- the blocks around the innermost
abbrev pub outer : List Block → List Block
outer [] = []
outer (b ∷ blocks) = blocks

-- after the end of a block that stands in these blocks: the loop's other turns, then the rest of the block around it
abbrev pub after_given : List Op → List Block → List TheLoop → Giver
after_given ops blocks [] at tape = nothing_given at tape
after_given ops blocks (l ∷ loops) at tape =
    then_given (turn_given at tape) (λ at tape.
    then_given (turns_given (block_given (block_of (drop l.start ops))) l.turns at tape) (λ at tape.
    then_given (block_given (innermost blocks) at tape) (after_given ops (outer blocks) loops)))

-- inside open loops: the rest of the innermost block, and what comes after it
abbrev pub open_given : List Op → List Block → List TheLoop → Giver
open_given ops blocks loops at tape = then_given (block_given (innermost blocks) at tape) (after_given ops (outer blocks) loops)

-- what the instructions from a location on give
abbrev pub location_given : List Op → TheEndLocation → Given
location_given ops s = open_given ops (frames_of (drop s.place ops)) s.loops s.at s.tape

-- the bytes from a location on
abbrev pub bytes_from : List Op → TheEndLocation → List ℕ
bytes_from ops s = number_bytes s.width s.value ++ (location_given ops s).bytes

-- a place of send code inside so many loops
abbrev pub IsPlace : List Op → ℕ → ℕ → Type 0
IsPlace ops depth place = accepts Send (Some (Inside depth)) (drop place ops) ≡ true

-- each loop begins inside as many loops as it is deep, and what stands around it is the same at its beginning
abbrev pub LoopsStand : List Op → List Block → List TheLoop → Type 0
LoopsStand ops blocks [] = Unit {0}
LoopsStand ops blocks (l ∷ loops) =
    IsPlace ops (length (l ∷ loops)) l.start × (outer (frames_of (drop l.start ops)) ≡ blocks) × LoopsStand ops (outer blocks) loops

-- a location of this code
pub record IsLocation (ops : List Op) (s : TheEndLocation) : Type 0 where
  pub depth : length s.loops ≤ 8
  pub place : IsPlace ops (length s.loops) s.place
  pub loops : LoopsStand ops (outer (frames_of (drop s.place ops))) s.loops
  pub width : s.width ≤ 8
  pub value : s.value < 256 ^ s.width

-- a location with bytes of a number to be given, or at the end of the code
abbrev pub IsSettled : List Op → TheEndLocation → Type 0
IsSettled ops s = s.width ≡ 0 → bytes_from ops s ≡ []

-- from one location to another of the same code: the bytes stay the same, and one instruction is behind
pub record StepsTo (ops : List Op) (s t : TheEndLocation) : Type 0 where
  pub location : IsLocation ops t
  pub bytes : bytes_from ops s ≡ bytes_from ops t
  pub steps : (location_given ops s).steps ≡ suc (location_given ops t).steps
