-- The sides of a core at a table of rings, as its contracts show them.
use Rattle.std.specs.Prelude.{ℕ, zero, suc, ◌==◌, ◌||◌, Bool, false, if◌then◌else◌, List, [], ◌∷◌, length, map}
use Rattle.atomic_table.specs.Seated.{TableId}
use Rattle.fl_ring.specs.SharedSides.{TheSide}
use Rattle.fl_ring.specs.declared.shared.duo_board.SeatHolder.{SeatHolder}
use Rattle.fl_ring.specs.declared.shared.duo_board.SeatHolder.TheVariants.{One, Two}
use Rattle.fl_history_rings.specs.declared.board.Action.{Action}
use Rattle.fl_history_rings.specs.declared.board.Action.TheVariants.{Put, Found, Missed, Saw, Took}
use Rattle.fl_history_rings.specs.declared.board.Entry.{Entry}
use Rattle.fl_history_rings.specs.declared.place.RingSide.{RingSide}
use Rattle.fl_history_rings.specs.Rule.{gather, puts_at, takes_at, known_at, told_at, seen_at, slots_of}
use Rattle.fl_history_rings.specs.Cores.{TheCore}

-- ---- one side, by what its core did

-- which side of its ring it is
abbrev pub holder_of : ℕ → SeatHolder
holder_of zero = One
holder_of (suc zero) = Two
holder_of (suc (suc s)) = holder_of s

-- a step that loads a control word, and one that finds nothing
abbrev pub one_load : Action → List Action
one_load (Put frag) = []
one_load (Found control) = Found control ∷ []
one_load Missed = Missed ∷ []
one_load (Saw frag) = []
one_load (Took frag) = []

abbrev pub one_miss : Action → List Action
one_miss (Put frag) = []
one_miss (Found control) = []
one_miss Missed = Missed ∷ []
one_miss (Saw frag) = []
one_miss (Took frag) = []

-- The side of this number, of so many slots each way, once its core did these steps: as a side of a ring that
-- has a table of its own is shown.
abbrev pub side_after : TableId → ℕ → ℕ → List Entry → TheSide
side_after table slots s steps = record {
  ring = table;
  holder = holder_of s;
  size = slots;
  sent = puts_at s steps;
  known = known_at s steps;
  loads = length (gather one_load s steps);
  got = takes_at s steps;
  peeked = seen_at s steps;
  misses = length (gather one_miss s steps);
  told = told_at s steps;
}

-- ---- a core's steps

-- whether one of these steps is by the side of this number
abbrev pub acts_in : ℕ → List Entry → Bool
acts_in s [] = false
acts_in s (e ∷ es) = (e.side == s) || acts_in s es

-- these steps up to the last by the side of this number
abbrev pub until_last : ℕ → List Entry → List Entry
until_last s [] = []
until_last s (e ∷ es) = if acts_in s (e ∷ es) then e ∷ until_last s es else []

-- the core, where it did these steps
abbrev pub with_steps : TheCore → List Entry → TheCore
with_steps c steps = record { table = c.table; sides = c.sides; number = c.number; steps = steps }

-- the core as it was once it last did something by the side of this number
abbrev pub core_until : ℕ → TheCore → TheCore
core_until s c = with_steps c (until_last s c.steps)

-- ---- what callers see

-- a side of a core
pub record TheHistorySide : Type 0 where
  pub side : TheSide
  -- its number in the table
  pub number : ℕ
  -- its core, as it was once it last did something by this side
  pub core : TheCore

-- the side of this number, of so many slots each way, of a core
abbrev pub shown_of : TheCore → ℕ → ℕ → TheHistorySide
shown_of c slots s = record { side = side_after c.table slots s c.steps; number = s; core = core_until s c }

abbrev pub side_shown : TheCore → RingSide → TheHistorySide
side_shown c a = shown_of c a.put.cursor.size a.put.side

-- the same of a core that did nothing yet
abbrev pub first_shown : TheCore → ℕ → TheHistorySide
first_shown c s = shown_of c (slots_of c.sides s) s

-- their numbers in the table
abbrev pub numbers_of : List TheHistorySide → List ℕ
numbers_of ss = map (λ p. p.number) ss
