-- What a look at a link leaves, and what it takes to follow what was seen to be ahead: the same as the world's relations, at its parts.
use Rattle.std.specs.Prelude.{ℕ, ◌≡◌, ◌⊎◌, false, List, slice_get, Some}
use Rattle.fl_base.specs.Control.{is_ack_only, with_circuit}
use Rattle.fl_ring.specs.Duo.{TheDuo, CountsAreNear, MayForget, side_of, across, knowing}
use Rattle.fl_core.specs.declared.answer.LinkFront.{LinkFront}
use Rattle.fl_core.specs.declared.answer.LinkFront.TheVariants.{Message, Onward, Arrival}
use Rattle.fl_model.specs.Events.{Answer}
use Rattle.fl_world_refines.specs.View.{TheWorld, ring_at, which_at, with_ring}
use Rattle.fl_world_refines.specs.Lending.{DoesNothing}
use Rattle.fl_world_refines.specs.Linking.{HasRules, TakesRules, move_of, MovesOn, IsNoWay}
use Rattle.fl_world_events.specs.declared.moving.ForwardFrag.{ForwardFrag}
use Rattle.fl_world_events.specs.Passing.{StandsAt}

-- ---- what is known of side m of a ring

-- so many of its fragments it knows to be taken
abbrev pub Knows : ℕ → TheDuo → ℕ → Type 0
Knows m r known = (known ≡ (side_of (which_at m) r).known) × CountsAreNear r.size (side_of (which_at m) r) (across (which_at m) r)

abbrev pub KnowsAt : List TheDuo → ℕ → ℕ → Type 0
KnowsAt rings m known = (r : TheDuo) → slice_get rings (ring_at m) ≡ Some r → Knows m r known

-- it may go back to a count that it knew before
abbrev pub MayForgetAt : List TheDuo → ℕ → ℕ → Type 0
MayForgetAt rings m known = (r : TheDuo) → slice_get rings (ring_at m) ≡ Some r → MayForget r.size (side_of (which_at m) r) known

-- it has gone back, and nothing else has changed
pub record Forgot (w : TheWorld) (m known : ℕ) (w2 : TheWorld) : Type 0 where
  pub ring : TheDuo
  pub ring_is : slice_get w.rings (ring_at m) ≡ Some ring
  pub rest : w2 ≡ with_ring w (ring_at m) (knowing (which_at m) ring known)

-- ---- what a look saw to be ahead

-- what it takes to follow it: the fragment stands first for side m, and is one of a call; or, of a message, the side may go back
abbrev pub MayFollow : LinkFront → ℕ → ℕ → List TheDuo → Type 0
MayFollow (Message frag) m known rings = StandsAt rings m frag × MayForgetAt rings m known
MayFollow (Onward frag onto circuit) m known rings = StandsAt rings m frag × (is_ack_only (with_circuit circuit.0 frag) ≡ false)
MayFollow (Arrival frag name) m known rings = StandsAt rings m frag × (is_ack_only (with_circuit 0 frag) ≡ false)
MayFollow ahead m known rings = Unit {0}

-- only a message that is heard wants memory: then the look is forgotten
abbrev pub Forgets : LinkFront → TheWorld → ℕ → ℕ → TheWorld → Type 0
Forgets (Message frag) w m known w2 = Forgot w m known w2
Forgets ahead w m known w2 = ⊥

-- ---- a fragment goes on

-- over two of the world's rings, or there is no way
abbrev pub GoesOn : ForwardFrag → TheWorld → Answer → TheWorld → Type 0
GoesOn p w a w2 = MovesOn (move_of p.from p.onto p.frag p.circuit) w a w2 ⊎ (IsNoWay p.from p.onto w × DoesNothing w a w2)

-- ---- rules are brought

-- the same in the world
abbrev pub TakesRulesOrNone : TheWorld → ℕ → ℕ → ℕ → TheWorld → Type 0
TakesRulesOrNone w n place binding w2 = TakesRules w n place binding w2 ⊎ ((HasRules w n place binding → ⊥) × (w2 ≡ w))
