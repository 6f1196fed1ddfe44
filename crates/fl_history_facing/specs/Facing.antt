-- A side as all steps up to a moment show it, beside the side across from it.
use Rattle.std.specs.Prelude.{ℕ, List, [], ◌∷◌}
use Rattle.atomic_table.specs.Seated.{TableId}
use Rattle.fl_ring.specs.SharedSides.{TheSide}
use Rattle.fl_cores_joined.specs.Rings.{FacingSide}
use Rattle.fl_history_rings.specs.declared.board.Action.{Action}
use Rattle.fl_history_rings.specs.declared.board.Entry.{Entry}
use Rattle.fl_history_rings.specs.declared.board.SideEnd.{SideEnd}
use Rattle.fl_history_rings.specs.Rings.{mate, entry}
use Rattle.fl_history_rings.specs.Rule.{slots_of}
use Rattle.fl_history_sides.specs.States.{side_after}

-- a side of these ends of a table once these steps were done, by whatever cores
abbrev pub side_at : TableId → List SideEnd → List Entry → ℕ → TheSide
side_at table ends log s = side_after table (slots_of ends s) s log

abbrev pub facing_at : TableId → List SideEnd → List Entry → ℕ → FacingSide
facing_at table ends log s = record { side = side_at table ends log s; across = side_at table ends log (mate s) }

-- steps of one core by one side, one after another
abbrev pub steps_by : ℕ → ℕ → List Action → List Entry
steps_by core s [] = []
steps_by core s (a ∷ acts) = entry core s a ∷ steps_by core s acts
