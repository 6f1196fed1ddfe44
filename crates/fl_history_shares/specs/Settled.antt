-- What came of the cores at one table.
use Rattle.std.specs.Prelude.{ℕ, ◌≡◌, ◌<◌, List, [], ◌∷◌, map, length, Option, Some, None}
use Rattle.std.specs.List.{AllByRecursion}
use Rattle.atomic_table.specs.Seated.{TableId}
use Rattle.fl_ring.specs.SharedSides.{TheSide}
use Rattle.fl_history_rings.specs.declared.board.RingEnds.{RingEnds}
use Rattle.fl_history_rings.specs.declared.board.SideEnd.{SideEnd}
use Rattle.fl_history_rings.specs.Rings.{sides_of}
use Rattle.fl_history_rings.specs.Cores.{TheCore, TheGathering, gathering_of, with_core, IsRingOf, InOneOrder}
use Rattle.fl_history_sides.specs.States.{TheHistorySide, numbers_of}
use Rattle.fl_history_sides.specs.Core.{AreSidesOf, IsOwnSide}
use Rattle.fl_cores_shares.specs.Shares.{Holdings, AreHandedOut}
use Rattle.fl_cores_shares.specs.Settled.{TwoSides, Each, IsNear, sides_of as both_of}
use Rattle.fl_history_shares.specs.Dealt.{owners_in, numbers_below, shown_hands}

-- the core has these sides, which show all that it did
pub record IsCoreOf (c : TheCore) (hand : List TheHistorySide) : Type 0 where
  pub sides : AreSidesOf c hand
  pub own : AllByRecursion (IsOwnSide c) hand

-- the cores that have sides, in order
abbrev pub AreCoresOf : Holdings TheHistorySide → List TheCore → Type 0
AreCoresOf [] [] = Unit {0}
AreCoresOf [] (c ∷ cores) = ⊥
AreCoresOf ([] ∷ hands) cores = AreCoresOf hands cores
AreCoresOf ((p ∷ hand) ∷ hands) [] = ⊥
AreCoresOf ((p ∷ hand) ∷ hands) (c ∷ cores) = IsCoreOf c (p ∷ hand) × AreCoresOf hands cores

-- the side's core is at this table
pub record IsAt (table : TableId) (ends : List SideEnd) (p : TheHistorySide) : Type 0 where
  pub table_is : p.core.table ≡ table
  pub sides_are : p.core.sides ≡ ends

abbrev pub AreAt : TableId → List SideEnd → Holdings TheHistorySide → Type 0
AreAt table ends hands = AllByRecursion (AllByRecursion (IsAt table ends)) hands

-- at some one
abbrev pub AreAtOne : Holdings TheHistorySide → Type 0
AreAtOne hands = (table : TableId) × (ends : List SideEnd) × AreAt table ends hands

-- one order has all that these cores did by the sides of these rings
pub record AreSettled (ends : List SideEnd) (hands : Holdings TheHistorySide) : Type 0 where
  pub cores : List TheCore
  pub are : AreCoresOf hands cores
  pub order : InOneOrder ends cores

-- Law: of each ring of these cores, what each side took is the first of what the other put.
abbrev pub SettledAreNear : Type 0
SettledAreNear = (rings : List RingEnds) (cores : ℕ) (hands : Holdings TheHistorySide) → AllByRecursion (IsRingOf cores) rings
    → AreHandedOut (owners_in rings) (numbers_below (length (owners_in rings))) (map numbers_of hands)
    → AreSettled (sides_of rings) hands
    → (after : List TwoSides) → AreHandedOut (owners_in rings) (both_of after) (shown_hands hands) → Each IsNear after

-- ---- gathering, as the code has it

-- the core is of the same table as those that were gathered
abbrev pub FitsIn : Option TheGathering → TheCore → Type 0
FitsIn None c = Unit {0}
FitsIn (Some g) c = c.table ≡ g.table

-- with a core more
abbrev pub gathered_with : Option TheGathering → TheCore → TheGathering
gathered_with None c = gathering_of c
gathered_with (Some g) c = with_core g c

-- those of them that have sides are gathered
pub record AreGathered (hands : Holdings TheHistorySide) (g : TheGathering) : Type 0 where
  pub are : AreCoresOf hands g.cores
  pub at : (table : TableId) (ends : List SideEnd) → AreAt table ends hands → (g.table ≡ table) × (g.sides ≡ ends)

abbrev pub Gathers : Holdings TheHistorySide → Option TheGathering → Type 0
Gathers hands None = AreCoresOf hands []
Gathers hands (Some g) = AreGathered hands g
