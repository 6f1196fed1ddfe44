-- What comes of a binding over a new ring, in a world.
use Rattle.std.specs.Prelude.{ℕ, ◌≡◌, ◌⊎◌, not, List, [], ◌∷◌, ◌++◌, length}
use Rattle.fl_base.specs.declared.identity.EndId.{EndId}
use Rattle.fl_ring.specs.Duo.{TheDuo}
use Rattle.fl_endpoint.specs.View.{TheEnd}
use Rattle.fl_core.specs.View.{TheCore}
use Rattle.fl_model.specs.declared.event.DispatcherId.{DispatcherId as RustDispatcherId}
use Rattle.fl_model.specs.Events.{Answer, done}
use Rattle.fl_world_refines.specs.declared.binding.Binding.{Binding}
use Rattle.fl_world_refines.specs.View.{If, TheWorld}
use Rattle.fl_world_refines.specs.Lending.{Refuses, DoesNothing}
use Rattle.fl_world_refines.specs.Binding.{BindingRequest, has_both_places, HasEndOf, JoinsByRing}
use Rattle.fl_world.specs.Requests.{IsNewEnd}
use Rattle.fl_world_events.specs.declared.by_ring.NewRingEnd.{NewRingEnd}
use Rattle.fl_world_events.specs.RingEnds.{JoinsBoth}

-- ---- in a world

-- an end that is to be made of an interface
pub record IsJoiner (w : TheWorld) (interface : ℕ) (at : RustDispatcherId) (name : EndId) (side : ℕ) (x : NewRingEnd) : Type 0 where
  pub end : TheEnd
  pub new : IsNewEnd interface w end
  pub joiner : x ≡ record { at = at; name = name; side = side; end = end }

-- two ends are joined by a ring that is new in the world, for this binding
pub record JoinsIn (x y : NewRingEnd) (ring : TheDuo) (b : Binding) (w w2 : TheWorld) : Type 0 where
  pub cores : List TheCore
  pub both : JoinsBoth x y ring w.cores cores
  pub rest : w2 ≡ record w { cores = cores; rings = w.rings ++ ring ∷ []; bindings = w.bindings ++ b ∷ [] }

-- both ends are joined, unless there is an end of the binding already
abbrev pub JoinsOrNot : BindingRequest → ℕ → TheWorld → Answer → TheWorld → Type 0
JoinsOrNot want size w a w2 =
    ((a ≡ done) × JoinsByRing want size w w2)
    ⊎ ((HasEndOf (length w.bindings) want.client.core w ⊎ HasEndOf (length w.bindings) want.server.core w) × DoesNothing w a w2)

-- where there are places for both
abbrev pub JoinsIfPlaces : BindingRequest → ℕ → TheWorld → Answer → TheWorld → Type 0
JoinsIfPlaces want size w a w2 = If (not (has_both_places want w)) (Refuses 54 w a w2) (JoinsOrNot want size w a w2)
