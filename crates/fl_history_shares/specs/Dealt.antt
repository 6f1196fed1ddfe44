-- Which sides of the rings of one table each core has.
use Rattle.std.specs.Prelude.{ℕ, suc, ◌≡◌, ◌≢◌, List, [], ◌∷◌, map, length}
use Rattle.std.specs.List.{range_with_len, AllByRecursion}
use Rattle.atomic_table.specs.Seated.{TableId}
use Rattle.fl_ring.specs.SharedSides.{TheSide, started_side}
use Rattle.fl_ring.specs.declared.shared.duo_board.SeatHolder.TheVariants.{One, Two}
use Rattle.fl_history_rings.specs.declared.board.RingEnds.{RingEnds}
use Rattle.fl_history_rings.specs.declared.board.SideEnd.{SideEnd}
use Rattle.fl_history_rings.specs.Rings.{sides_of}
use Rattle.fl_history_rings.specs.Cores.{TheCore}
use Rattle.fl_history_sides.specs.States.{TheHistorySide, first_shown}
use Rattle.fl_history_sides.specs.Lent.{states_in}
use Rattle.fl_history_sides.specs.declared.sides.HistorySides.{HistorySides}
use Rattle.fl_cores_shares.specs.Shares.{Holdings, Holds, holdings_in}
use Rattle.fl_cores_shares.specs.Settled.{TwoSides}
use Rattle.fl_history_shares.specs.declared.dealing.DealtSides.{DealtSides}

-- by side of these rings, the core whose it is
abbrev pub owners_in : List RingEnds → List ℕ
owners_in [] = []
owners_in (r ∷ rings) = r.first ∷ r.second ∷ owners_in rings

-- the numbers of so many sides
abbrev pub numbers_below : ℕ → List ℕ
numbers_below count = range_with_len 0 count

-- a core at this table, which did nothing yet
abbrev pub new_core : TableId → List SideEnd → ℕ → TheCore
new_core table ends core = record { table = table; sides = ends; number = core; steps = [] }

-- from this core on, each has its sides of these numbers, by which nothing was done
abbrev pub first_hands : TableId → List SideEnd → ℕ → Holdings ℕ → Holdings TheHistorySide
first_hands table ends core [] = []
first_hands table ends core (numbers ∷ holdings) =
    map (first_shown (new_core table ends core)) numbers ∷ first_hands table ends (suc core) holdings

-- by core, its sides
abbrev pub hands_in : List HistorySides → Holdings TheHistorySide
hands_in sides = map (λ s. states_in s.lent) sides

-- new rings, whose sides are dealt to so many cores
pub record Deals (rings : List RingEnds) (cores : ℕ) (d : DealtSides) : Type 0 where
  pub owners : d.numbers.owners.items ≡ owners_in rings
  pub holds : Holds d.numbers (numbers_below (length (owners_in rings)))
  pub table : TableId
  pub hands : hands_in d.sides.items ≡ first_hands table (sides_of rings) 0 (holdings_in d.numbers)
  pub as_many : length d.sides.items ≡ cores

-- ---- as sides of rings by themselves

-- those of new rings
abbrev pub new_rings : TableId → List RingEnds → List TwoSides
new_rings table [] = []
new_rings table (r ∷ rings) =
    record { one = started_side table One r.slots 0; two = started_side table Two r.slots 0 } ∷ new_rings table rings

-- by core, its sides
abbrev pub shown_hands : Holdings TheHistorySide → Holdings TheSide
shown_hands hands = map (λ hand. map (λ (p : TheHistorySide). p.side) hand) hands
