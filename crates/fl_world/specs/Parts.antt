-- An end that isn't made, and two cores that can't be linked, in a world.
use Rattle.std.specs.Prelude.{ℕ, ◌⊎◌, ◌==◌, ◌||◌, ◌&&◌, not, Bool}
use Rattle.fl_endpoint.specs.View.{TheEnd}
use Rattle.fl_model.specs.Events.{Answer}
use Rattle.fl_world_refines.specs.View.{TheWorld}
use Rattle.fl_world_refines.specs.Lending.{Refuses, AtUnmade, KeepsNone}
use Rattle.fl_world_refines.specs.Making.{is_core, has_link}

-- ---- an end that isn't made

abbrev pub AtUnmadeOrNone : TheWorld → ℕ → (TheEnd → TheEnd → Type 0) → Answer → TheWorld → Type 0
AtUnmadeOrNone w n Event a w2 = AtUnmade w n Event w2 ⊎ (KeepsNone w n × Refuses 92 w a w2)

-- ---- a link

-- one of the two cores isn't there, they are one, or they are linked already
abbrev pub is_no_pair : ℕ → ℕ → TheWorld → Bool
is_no_pair a b w = not (is_core a w && is_core b w) || (a == b) || has_link a b w
