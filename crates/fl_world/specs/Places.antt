-- What is due at a dispatcher of a world, in the code's own words for it.
use Rattle.std.specs.Prelude.{ℕ, ◌≡◌, ◌<◌, List, length, slice_get, Some}
use Rattle.fl_core.specs.BoardView.{due}
use Rattle.fl_core.specs.declared.wiring.Inlet.{Inlet}
use Rattle.fl_core.specs.View.{TheCore, inlet_of}
use Rattle.fl_model.specs.Events.{Answer}
use Rattle.fl_world_refines.specs.View.{TheWorld}
use Rattle.fl_world_refines.specs.Taking.{as_turn, TurnsOver}
use Rattle.fl_world_events.specs.declared.taking.DueEnd.{DueEnd}

-- the end that was found is due at its dispatcher of core n, and takes from this inlet
pub record IsDueOver (cores : List TheCore) (n : ℕ) (at : DueEnd) (i : Inlet) : Type 0 where
  pub core : TheCore
  pub core_is : slice_get cores n ≡ Some core
  pub there : at.dispatcher < length core.board.dispatchers
  pub due_is : due core.board at.dispatcher ≡ Some at.end
  pub within : at.end < length core.board.seats
  pub inlet_is : inlet_of core at.end ≡ Some i

-- it has the turn, over that
abbrev pub TurnsFrom : Inlet → ℕ → DueEnd → TheWorld → Answer → TheWorld → Type 0
TurnsFrom i n at w a w2 = TurnsOver i n (as_turn at.dispatcher at.end at.name a) w w2
