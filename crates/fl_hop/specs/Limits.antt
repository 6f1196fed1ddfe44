-- The cores of a world are those below 16, and so a core never wants more links than it may have.
use Rattle.std.specs.Prelude.{ℕ, ◌≡◌, ◌≢◌, ◌<◌, slice_get, Some}
use Rattle.fl_base.specs.Numbered.{most_cores}
use Rattle.fl_hop.specs.declared.links.LinkState.{LinkState}
use Rattle.fl_hop.specs.declared.fault.HopFault.TheVariants.{Limit}
use Rattle.fl_hop.specs.Table.{TheCircuits, link_fault}
use Rattle.fl_hop.specs.Joined.{Sound}

-- the table's core and those that its links go to are cores of a world
pub record AreCores (t : TheCircuits) : Type 0 where
  pub own : t.core < most_cores
  pub others : (l : ℕ) (a : LinkState) → slice_get t.links l ≡ Some a → a.neighbour.0 < most_cores

-- then no link to a core of a world is refused for there being too many
abbrev pub LinksSuffice : Type 0
LinksSuffice = (t : TheCircuits) (core : ℕ) → Sound t → AreCores t → core < most_cores → link_fault t core ≢ Some Limit
