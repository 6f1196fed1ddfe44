-- Where ends and links are, in the code's own words for it.
use Rattle.std.specs.Prelude.{ℕ, ◌≡◌, ◌<◌, List, length, slice_get, Option, Some, None}
use Rattle.fl_base.specs.Given.{given}
use Rattle.fl_hop.specs.Table.{link_of}
use Rattle.fl_core.specs.View.{TheCore, side_of_link}
use Rattle.fl_world_refines.specs.View as view
use Rattle.fl_world_refines.specs.Linking as linking
use Rattle.fl_world_events.specs.declared.places.EndLocation.{EndLocation}
use Rattle.fl_world_events.specs.declared.places.EndLocation.TheVariants.{Nowhere, Unmade, Made}
use Rattle.fl_world_events.specs.declared.places.LinkWithSide.{LinkWithSide}

abbrev pub location_from : EndLocation → view.WhereEnd
location_from Nowhere = view.nowhere
location_from Unmade = view.unmade
location_from (Made core place) = view.made core place

-- core n is there, and so is an end at this place of its board
pub record HasEnd (cores : List TheCore) (n place : ℕ) : Type 0 where
  pub core : TheCore
  pub core_is : slice_get cores n ≡ Some core
  pub within : place < length core.board.seats

abbrev pub IsThere : List TheCore → EndLocation → Type 0
IsThere cores (Made n place) = HasEnd cores n place
IsThere cores location = Unit {0}

abbrev pub link_side_from : LinkWithSide → linking.LinkNumbers
link_side_from at = record { link = at.link.0; side = at.side }

-- core n is there, and so is its link l
pub record HasLink (cores : List TheCore) (n l : ℕ) : Type 0 where
  pub core : TheCore
  pub core_is : slice_get cores n ≡ Some core
  pub within : l < length core.link_sides

-- a core's end of its link to a neighbour
abbrev pub link_side_at : List TheCore → ℕ → ℕ → Option linking.LinkNumbers
link_side_at cores n neighbour =
    given (slice_get cores n) None λ k.
    given (link_of k.monitor.circuits neighbour) None λ l.
    given (side_of_link k.link_sides l) None λ m.
    Some (record { link = l; side = m })
