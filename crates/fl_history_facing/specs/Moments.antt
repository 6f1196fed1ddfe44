-- An event of a core's log, at its moment in one order of all steps.
use Rattle.std.specs.Prelude.{ℕ, ◌≡◌, ◌≢◌, List, map, slice_get, Some}
use mathlib.Core.Option.{some}
use lib.ListN.{get_elem?}
use Rattle.atomic_table.specs.Seated.{TableId}
use Rattle.fl_core_run.specs.Run.{TheRun, over}
use Rattle.fl_cores_joined.specs.Rings.{FacingSide}
use Rattle.fl_history_rings.specs.declared.board.Entry.{Entry}
use Rattle.fl_history_rings.specs.declared.board.SideEnd.{SideEnd}
use Rattle.fl_history_rings.specs.Rings.{mate, steps_of}
use Rattle.fl_history_rings.specs.Cores.{TheCore, OwnsSlots}
use Rattle.fl_history_sides.specs.States.{TheHistorySide}
use Rattle.fl_history_sides.specs.Core.{AreSidesOf}
use Rattle.fl_history_facing.specs.Facing.{side_at}

-- These are sides of a core of this table that did its part of these steps.
pub record AreSidesAt (table : TableId) (ends : List SideEnd) (log : List Entry) (c : TheCore)
    (ss : List TheHistorySide) : Type 0 where
  pub sides : AreSidesOf c ss
  pub table_is : c.table ≡ table
  pub did : c.steps ≡ steps_of c.number log
  pub owns : (i : ℕ) (p : TheHistorySide) → slice_get ss i ≡ Some p → OwnsSlots ends p.number c.number p.side.size

-- the two sides of each ring are of two cores
abbrev pub AreOfTwoCores : List SideEnd → Type 0
AreOfTwoCores ends = (s : ℕ) (one other : SideEnd) → get_elem? ends s ≡ some one
    → get_elem? ends (mate s) ≡ some other → one.core ≢ other.core

-- a side beside the one across from it, as these steps show that
abbrev pub beside : TableId → List SideEnd → List Entry → TheHistorySide → FacingSide
beside table ends log p = record { side = p.side; across = side_at table ends log (mate p.number) }

-- a core with all its sides so
abbrev pub run_beside : TableId → List SideEnd → List Entry → TheRun TheHistorySide → TheRun FacingSide
run_beside table ends log s = over (map (beside table ends log) s.rings) s
