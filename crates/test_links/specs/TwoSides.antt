-- Cores at rings, each with two sides.
use Rattle.std.specs.Prelude.{ℕ, ◌≡◌, ◌≢◌}
use Rattle.fl_history_rings.specs.declared.place.RingSide.{RingSide}
use Rattle.fl_history_rings.specs.Cores.{TheCore}
use Rattle.fl_history_rings.specs.Sides.{SideFor}

-- these are sides of the core, of two numbers
pub record HasBoth (s : TheCore) (a b : RingSide) : Type 0 where
  pub one : SideFor s a
  pub two : SideFor s b
  pub apart : b.put.side ≢ a.put.side
