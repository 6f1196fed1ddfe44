-- A core and all its sides.
use Rattle.std.specs.Prelude.{ℕ, ◌≡◌, List, slice_get, Some, ◌≤◌, ◌+◌, length}
use Rattle.std.specs.List.{AllByRecursion}
use mathlib.Core.Option.{some}
use lib.ListN.{get_elem?}
use Rattle.fl_history_rings.specs.declared.board.Entry.{Entry}
use Rattle.fl_history_rings.specs.declared.board.SideEnd.{SideEnd}
use Rattle.fl_history_rings.specs.Cores.{TheCore}
use Rattle.fl_history_sides.specs.States.{TheHistorySide, shown_of, numbers_of}

-- no number stands twice among these
abbrev pub IsDistinct : List ℕ → Type 0
IsDistinct numbers = (i j k : ℕ) → slice_get numbers i ≡ Some k → slice_get numbers j ≡ Some k → i ≡ j

-- a step of this core by one of these sides
abbrev pub IsStepBy : ℕ → List ℕ → Entry → Type 0
IsStepBy core numbers e = (e.core ≡ core) × ((i : ℕ) × (slice_get numbers i ≡ Some e.side))

-- These are all sides by which the core stepped, each once, as they stand once it did all that it did.
pub record AreSidesOf (c : TheCore) (ss : List TheHistorySide) : Type 0 where
  pub each : AllByRecursion (λ p. p ≡ shown_of c p.side.size p.number) ss
  pub apart : IsDistinct (numbers_of ss)
  pub did : AllByRecursion (IsStepBy c.number (numbers_of ss)) c.steps

-- The side is this core's, and has the slots of its ring. It put what it knows to be taken, and no round more.
pub record IsOwnSide (c : TheCore) (p : TheHistorySide) : Type 0 where
  pub end : SideEnd
  pub there : get_elem? c.sides p.number ≡ some end
  pub mine : end.core ≡ c.number
  pub slots : p.side.size ≡ end.slots
  pub known_put : p.side.known ≤ length p.side.sent
  pub near : length p.side.sent ≤ p.side.known + p.side.size

-- these are sides of one core, and show all that it did
abbrev pub AreOfOneCore : List TheHistorySide → Type 0
AreOfOneCore ss = (c : TheCore) × AreSidesOf c ss
