-- Where an event happens in a world: at a core, over a queue or a side of a ring that is lent to it, or at an end that
-- isn't made yet. Nothing else has changed.
use Rattle.std.specs.Prelude.{ℕ, ◌≡◌, List, slice_get, Some, None}
use Rattle.fl_link.specs.Looks.{Look}
use Rattle.fl_link.specs.Queue.{TheQueue, front_of}
use Rattle.fl_ring.specs.Duo.{TheDuo, side_of}
use Rattle.fl_ring.specs.declared.duo_side.DuoSide.{DuoSide}
use Rattle.fl_endpoint.specs.View.{TheEnd}
use Rattle.fl_core.specs.View.{TheCore}
use Rattle.fl_model.specs.Events.{Answer, nothing, refused}
use Rattle.fl_world_refines.specs.declared.binding.Binding.{Binding}
use Rattle.fl_world_refines.specs.View.{TheWorld, ring_at, which_at, IsWhole, with_core, with_ring, with_queue, with_binding, keeping}

-- what is answered of the end at a place of a core
pub record AnswerAt : Type 0 where
  pub place : ℕ
  pub answer : Answer

abbrev pub answer_at : ℕ → Answer → AnswerAt
answer_at place a = record { place = place; answer = a }

-- the event is refused, and nothing has changed
abbrev pub Refuses : ℕ → TheWorld → Answer → TheWorld → Type 0
Refuses fault w a w2 = (a ≡ refused fault) × (w2 ≡ w)

-- there is nothing to do
abbrev pub DoesNothing : TheWorld → Answer → TheWorld → Type 0
DoesNothing w a w2 = (a ≡ nothing) × (w2 ≡ w)

-- core n alone has changed, as the event says
pub record AtCore (w : TheWorld) (n : ℕ) (Event : TheCore → TheCore → Type 0) (w2 : TheWorld) : Type 0 where
  pub before : TheCore
  pub before_is : slice_get w.cores n ≡ Some before
  pub whole : IsWhole before
  pub after : TheCore
  pub still : IsWhole after
  pub event : Event before after
  pub rest : w2 ≡ with_core w n after

-- core n and queue q alone have changed
pub record OverQueue (w : TheWorld) (n q : ℕ) (Event : TheCore → TheQueue → TheCore → TheQueue → Type 0) (w2 : TheWorld) : Type 0 where
  pub before : TheCore
  pub before_is : slice_get w.cores n ≡ Some before
  pub whole : IsWhole before
  pub queue : TheQueue
  pub queue_is : slice_get w.queues q ≡ Some queue
  pub after : TheCore
  pub still : IsWhole after
  pub left : TheQueue
  pub event : Event before queue after left
  pub rest : w2 ≡ with_queue (with_core w n after) q left

-- a side of a ring as it is lent
pub record IsLent (m : ℕ) (r : TheDuo) (side : DuoSide) : Type 0 where
  pub ring : side.duo.now ≡ r
  pub which : side.which ≡ which_at m

-- core n and the ring of side m alone have changed
pub record OverSide (w : TheWorld) (n m : ℕ) (Event : TheCore → DuoSide → TheCore → DuoSide → Type 0) (w2 : TheWorld) : Type 0 where
  pub before : TheCore
  pub before_is : slice_get w.cores n ≡ Some before
  pub whole : IsWhole before
  pub ring : TheDuo
  pub ring_is : slice_get w.rings (ring_at m) ≡ Some ring
  pub side : DuoSide
  pub lent : IsLent m ring side
  pub after : TheCore
  pub still : IsWhole after
  pub left : DuoSide
  pub event : Event before side after left
  pub rest : w2 ≡ with_ring (with_core w n after) (ring_at m) left.duo.now

-- what stands first for a side
abbrev pub front_for : DuoSide → Look
front_for s = front_of (side_of s.which s.duo.now).waiting

-- the server's end that binding n keeps alone has changed
pub record AtUnmade (w : TheWorld) (n : ℕ) (Event : TheEnd → TheEnd → Type 0) (w2 : TheWorld) : Type 0 where
  pub binding : Binding
  pub binding_is : slice_get w.bindings n ≡ Some binding
  pub before : TheEnd
  pub before_is : binding.unmade ≡ Some before
  pub after : TheEnd
  pub event : Event before after
  pub rest : w2 ≡ with_binding w n (keeping binding after)

-- binding n keeps none
pub record KeepsNone (w : TheWorld) (n : ℕ) : Type 0 where
  pub binding : Binding
  pub binding_is : slice_get w.bindings n ≡ Some binding
  pub none : binding.unmade ≡ None

-- a wiring that leads to no queue or ring, as in no world that shows a state
abbrev pub IsStray : {X : Type 0} → List X → ℕ → TheWorld → Answer → TheWorld → Type 0
IsStray xs n w a w2 = (slice_get xs n ≡ None) × DoesNothing w a w2
