-- An end at a core gets the rules of another that a binding kept for it.
use Rattle.std.specs.Prelude.{ℕ, ◌≡◌, ◌⊎◌, Some, None}
use Rattle.fl_endpoint.specs.View.{TheEnd}
use Rattle.fl_core.specs.BoardEvents.{ChangesEnd}
use Rattle.fl_core.specs.View.{TheCore}
use Rattle.fl_core.specs.Ends.{OnBoard}
use Rattle.fl_world_refines.specs.declared.binding.Binding.{Binding}
use Rattle.fl_world_refines.specs.Linking.{WithRules}
use Rattle.fl_world_events.specs.Parts.{InCore}

-- ---- rules are brought

-- the end at a place of a core gets the rules of another, where the two are of one interface
abbrev pub TakesRulesOf : TheEnd → ℕ → TheCore → TheCore → Type 0
TakesRulesOf o place k k2 = OnBoard k (λ b c. ChangesEnd b place (λ s t. WithRules s o t) c) k2

-- it gets those of the end that a binding keeps for it, and the binding keeps none any more; or it keeps none
abbrev pub TakesKept : ℕ → TheCore → Binding → TheCore → Binding → Type 0
TakesKept place k b k2 b2 =
    ((o : TheEnd) × (b.unmade ≡ Some o) × InCore (TakesRulesOf o place) k k2 × (b2 ≡ record b { unmade = None }))
    ⊎ ((b.unmade ≡ None) × (k2 ≡ k) × (b2 ≡ b))
