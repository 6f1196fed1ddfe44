-- What each operation does at a side of a ring, exactly: by cases on what it came to. The side goes from s to t. A fragment is
-- eight numbers: its words, and its control word.
use Rattle.std.specs.Prelude.{◌≡◌, ◌≢◌, ℕ, true, List, [], ◌∷◌, ◌++◌, length, Result, Ok, Err}
use Rattle.fl_base.specs.declared.fragment.Frag.{Frag}
use Rattle.fl_base.specs.Control.{bare, is_ack_only}
use Rattle.fl_link.specs.declared.fault.PutFault.TheVariants.{Full, Spent}
use Rattle.fl_link.specs.Looks.{placed, no_room, spent, saw, saw_ack, found, found_ack, missed, told, kept}
use Rattle.fl_ring.specs.SharedSides.{TheSide, SharedPuts, SharedTakes}
use Rattle.fl_c_operations.specs.declared.operation.Operation.{Operation}
use Rattle.fl_c_operations.specs.declared.operation.Operation.TheVariants.{Put, Take, Peek, Tell}
use Rattle.fl_c_operations.specs.declared.answer.Outcome.{Outcome}
use Rattle.fl_c_operations.specs.declared.answer.Outcome.TheVariants.{Placed, Nothing, Fragment, Acknowledgement, Kept, Told}
use Rattle.fl_c_operations.specs.declared.answer.UseFault.{UseFault}
use Rattle.fl_c_operations.specs.declared.answer.UseFault.TheVariants.{NoSuchOperation, WrongRoom, OnlyAcknowledges, Link}

-- the eight numbers of a fragment
abbrev pub numbers_of : Frag → List ℕ
numbers_of frag = frag.words ++ frag.control ∷ []

-- the fragment of these numbers is put, or why not
abbrev pub Puts : TheSide → List ℕ → Result Outcome UseFault → TheSide → Type 0
Puts s numbers (Ok Placed) t = (frag : Frag) × (numbers ≡ numbers_of frag) × SharedPuts s (placed (bare frag)) t
Puts s numbers (Ok outcome) t = ⊥
Puts s numbers (Err WrongRoom) t = (length numbers ≢ 8) × (t ≡ s)
Puts s numbers (Err OnlyAcknowledges) t = ((frag : Frag) × (numbers ≡ numbers_of frag) × (is_ack_only frag ≡ true)) × (t ≡ s)
Puts s numbers (Err (Link Full)) t = (length numbers ≡ 8) × SharedPuts s no_room t
Puts s numbers (Err (Link Spent)) t = (length numbers ≡ 8) × SharedPuts s spent t
Puts s numbers (Err fault) t = ⊥

-- what stands first is taken, and a fragment's numbers are written
abbrev pub Takes : TheSide → List ℕ → Result Outcome UseFault → TheSide → List ℕ → Type 0
Takes s room (Ok Fragment) t written = (length room ≡ 8) × ((frag : Frag) × (written ≡ numbers_of frag) × SharedTakes s (found (bare frag)) t)
Takes s room (Ok Acknowledgement) t written = (length room ≡ 8) × (written ≡ room) × SharedTakes s found_ack t
Takes s room (Ok Nothing) t written = (length room ≡ 8) × (written ≡ room) × SharedTakes s missed t
Takes s room (Ok outcome) t written = ⊥
Takes s room (Err WrongRoom) t written = (length room ≢ 8) × (written ≡ room) × (t ≡ s)
Takes s room (Err fault) t written = ⊥

-- the same, and what was seen is left there
abbrev pub Peeks : TheSide → List ℕ → Result Outcome UseFault → TheSide → List ℕ → Type 0
Peeks s room (Ok Fragment) t written = (length room ≡ 8) × ((frag : Frag) × (written ≡ numbers_of frag) × SharedTakes s (saw (bare frag)) t)
Peeks s room (Ok Acknowledgement) t written = (length room ≡ 8) × (written ≡ room) × SharedTakes s saw_ack t
Peeks s room (Ok Nothing) t written = (length room ≡ 8) × (written ≡ room) × SharedTakes s missed t
Peeks s room (Ok outcome) t written = ⊥
Peeks s room (Err WrongRoom) t written = (length room ≢ 8) × (written ≡ room) × (t ≡ s)
Peeks s room (Err fault) t written = ⊥

-- what was taken is told, where that is at least half of the slots
abbrev pub Tells : TheSide → Result Outcome UseFault → TheSide → Type 0
Tells s (Ok Told) t = SharedTakes s told t
Tells s (Ok Kept) t = SharedTakes s kept t
Tells s (Ok outcome) t = ⊥
Tells s (Err (Link Full)) t = SharedTakes s no_room t
Tells s (Err fault) t = ⊥

-- an operation at a side, on these numbers
abbrev pub UsesSide : TheSide → Operation → List ℕ → Result Outcome UseFault → TheSide → List ℕ → Type 0
UsesSide s Put numbers r t written = Puts s numbers r t × (written ≡ numbers)
UsesSide s Take numbers r t written = Takes s numbers r t written
UsesSide s Peek numbers r t written = Peeks s numbers r t written
UsesSide s Tell numbers r t written = Tells s r t × (written ≡ numbers)
UsesSide s operation numbers r t written = (r ≡ Err NoSuchOperation) × (t ≡ s) × (written ≡ numbers)
