-- A core with its sides, of which one is lent, as its code holds them.
use Rattle.std.specs.Prelude.{ℕ, zero, suc, ◌≡◌, ◌<◌, ◌%◌, Bool, List, [], ◌∷◌, length, map}
use Rattle.std.specs.Prelude.{slice_get, slice_index_or, Option, Some, None}
use Rattle.std.specs.List.{AllByRecursion}
use Rattle.fl_base.specs.declared.fragment.Frag.{Frag}
use Rattle.fl_link.specs.declared.sides.Sight.{Sight}
use Rattle.fl_link.specs.declared.sides.Sight.TheVariants.{Empty}
use Rattle.fl_link.specs.Cursor.{epoch_at}
use Rattle.fl_link.specs.Looks.{Look}
use Rattle.fl_ring.specs.SharedSeats.{sight_of}
use Rattle.fl_ring.specs.SharedSides.{side_has_room}
use Rattle.fl_history_rings.specs.declared.place.RingSide.{RingSide}
use Rattle.fl_history_rings.specs.Cores.{TheCore}
use Rattle.fl_history_rings.specs.Sides.{SideFor, side_from}
use Rattle.fl_history_sides.specs.States.{TheHistorySide, side_shown, first_shown}
use Rattle.fl_history_sides.specs.Noted.{HistoryPuts, HistoryTakes}
use Rattle.fl_history_sides.specs.Core.{IsDistinct, IsStepBy}

pub record TheLent : Type 0 where
  pub core : TheCore
  pub sides : List RingSide
  -- the number of the side that is lent, among these
  pub at : ℕ

abbrev pub numbers_in : List RingSide → List ℕ
numbers_in sides = map (λ a. a.put.side) sides

-- These are sides of this core, each once, and it stepped by no others. One is lent.
pub record IsLent (core : TheCore) (sides : List RingSide) (at : ℕ) : Type 0 where
  pub within : at < length sides
  pub mine : AllByRecursion (SideFor core) sides
  pub apart : IsDistinct (numbers_in sides)
  pub did : AllByRecursion (IsStepBy core.number (numbers_in sides)) core.steps

-- these are the core's sides of these numbers, before it did anything
pub record AreFirst (core : TheCore) (numbers : List ℕ) (sides : List RingSide) : Type 0 where
  pub mine : AllByRecursion (SideFor core) sides
  pub numbers_are : numbers_in sides ≡ numbers
  pub shown : map (side_shown core) sides ≡ map (first_shown core) numbers

-- ---- what callers see

abbrev pub states_of : TheLent → List TheHistorySide
states_of s = map (side_shown s.core) s.sides

-- the side that is lent
abbrev pub ring_side : TheLent → RingSide
ring_side s = slice_index_or s.sides s.at (side_from [] 0 0)

abbrev pub state_of : TheLent → TheHistorySide
state_of s = side_shown s.core (ring_side s)

-- a list without the one in this place
abbrev pub without : {A : Type 0} → ℕ → List A → List A
without n [] = []
without zero (x ∷ xs) = xs
without (suc n) (x ∷ xs) = x ∷ without n xs

-- what stays while a side is lent: how many there are, which is lent, and how the others stand
pub record TheRest : Type 0 where
  pub count : ℕ
  pub at : ℕ
  pub others : List TheHistorySide

abbrev pub rest_of : TheLent → TheRest
rest_of s = record { count = length s.sides; at = s.at; others = without s.at (states_of s) }

-- ---- steps of what is lent

abbrev pub LentPuts : TheLent → Look → TheLent → Type 0
LentPuts s look t = HistoryPuts (state_of s) look (state_of t) × (rest_of s ≡ rest_of t)

abbrev pub LentTakes : TheLent → Look → TheLent → Type 0
LentTakes s look t = HistoryTakes (state_of s) look (state_of t) × (rest_of s ≡ rest_of t)

abbrev pub lent_has_room : TheLent → Bool
lent_has_room s = side_has_room (state_of s).side

-- the epoch, and the number of all that was taken, of the fragment that is put next; and how many of its
-- fragments the side knows to be taken
abbrev pub lent_epoch : TheLent → ℕ
lent_epoch s = epoch_at (state_of s).side.size (length (state_of s).side.sent)

abbrev pub lent_told : TheLent → ℕ
lent_told s = length (state_of s).side.got % 65536

abbrev pub lent_known : TheLent → ℕ
lent_known s = (state_of s).side.known

-- what a look answers that finds this fragment, or none
abbrev pub sight_in : Option Frag → Sight
sight_in None = Empty
sight_in (Some frag) = sight_of frag

-- ---- where a core may have no sides

abbrev pub states_in : Option TheLent → List TheHistorySide
states_in None = []
states_in (Some s) = states_of s

-- the same sides, of which that of this number is lent
abbrev pub lending : TheLent → ℕ → TheLent
lending s n = record { core = s.core; sides = s.sides; at = n }

abbrev pub Lends : Option TheLent → ℕ → TheLent → Type 0
Lends None n t = ⊥
Lends (Some s) n t = (a : RingSide) × (slice_get s.sides n ≡ Some a) × (t ≡ lending s n)
