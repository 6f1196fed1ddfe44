-- What an event comes to at the parts of a world that it touches: a core, and the queue or the ring that is lent to it, or a
-- binding that keeps an end.
use Rattle.std.specs.Prelude.{ℕ, ◌≡◌, ◌⊎◌, ◌+◌, List, slice_get, slice_set, Some, None, Result}
use Rattle.fl_base.specs.Numbered.{core_id}
use Rattle.fl_value_data.specs.Value.{TheCall}
use Rattle.fl_link.specs.Queue.{TheQueue}
use Rattle.fl_ring.specs.Duo.{TheDuo}
use Rattle.fl_ring.specs.declared.duo_side.DuoSide.{DuoSide}
use Rattle.fl_endpoint.specs.declared.fault.EndFault.{EndFault}
use Rattle.fl_endpoint.specs.View.{TheEnd}
use Rattle.fl_endpoint.specs.Events.{Calls, SetsRule}
use Rattle.fl_core.specs.BoardEvents.{ChangesEnd}
use Rattle.fl_core.specs.View.{TheCore}
use Rattle.fl_core.specs.Ends.{OnBoard}
use Rattle.fl_core.specs.Making.{linked}
use Rattle.fl_model.specs.Events.{Answer, refused}
use Rattle.fl_world_refines.specs.declared.binding.Binding.{Binding}
use Rattle.fl_world_refines.specs.View.{IsWhole, keeping}
use Rattle.fl_world_refines.specs.Lending.{IsLent}
use Rattle.fl_world_refines.specs.Sending.{IsCalled}
use Rattle.fl_world_refines.specs.Taking.{IsRuled}

-- ---- where an event happens

-- a core alone has changed, as the event says
pub record InCore (Event : TheCore → TheCore → Type 0) (k k2 : TheCore) : Type 0 where
  pub whole : IsWhole k
  pub still : IsWhole k2
  pub event : Event k k2

-- a core, over a queue
pub record ByQueue (Event : TheCore → TheQueue → TheCore → TheQueue → Type 0) (k : TheCore) (p : TheQueue) (k2 : TheCore) (q : TheQueue) : Type 0 where
  pub whole : IsWhole k
  pub still : IsWhole k2
  pub event : Event k p k2 q

-- a ring, by side m of it, which is lent
pub record Lends (m : ℕ) (Event : DuoSide → DuoSide → Type 0) (r r2 : TheDuo) : Type 0 where
  pub side : DuoSide
  pub lent : IsLent m r side
  pub left : DuoSide
  pub event : Event side left
  pub rest : r2 ≡ left.duo.now

-- a core, over side m of a ring
pub record ByRing (m : ℕ) (Event : TheCore → DuoSide → TheCore → DuoSide → Type 0) (k : TheCore) (r : TheDuo) (k2 : TheCore) (r2 : TheDuo) : Type 0 where
  pub whole : IsWhole k
  pub still : IsWhole k2
  pub over : Lends m (λ p q. Event k p k2 q) r r2

-- the end that a binding keeps
pub record InKept (Event : TheEnd → TheEnd → Type 0) (b b2 : Binding) : Type 0 where
  pub before : TheEnd
  pub before_is : b.unmade ≡ Some before
  pub after : TheEnd
  pub event : Event before after
  pub rest : b2 ≡ keeping b after

-- ---- events of one end

abbrev pub CallsWith : TheCall → Answer → TheEnd → TheEnd → Type 0
CallsWith c a s t = (r : Result (Unit {0}) EndFault) × Calls s c r t × IsCalled r a

abbrev pub CallsIn : ℕ → TheCall → Answer → TheCore → TheCore → Type 0
CallsIn place c a k k2 = (r : Result (Unit {0}) EndFault) × OnBoard k (λ b d. ChangesEnd b place (λ s t. Calls s c r t) d) k2 × IsCalled r a

abbrev pub RulesWith : ℕ → ℕ → Answer → TheEnd → TheEnd → Type 0
RulesWith msg reply a s t = (r : Result (Unit {0}) EndFault) × SetsRule s msg reply r t × IsRuled r a

abbrev pub RulesIn : ℕ → ℕ → ℕ → Answer → TheCore → TheCore → Type 0
RulesIn place msg reply a k k2 = (r : Result (Unit {0}) EndFault) × OnBoard k (λ b d. ChangesEnd b place (λ s t. SetsRule s msg reply r t) d) k2 × IsRuled r a

-- ---- an end that isn't made

-- the end that a binding keeps has changed; a binding that keeps none refuses (E92)
abbrev pub KeptOrNone : (TheEnd → TheEnd → Type 0) → Answer → Binding → Binding → Type 0
KeptOrNone Event a b b2 = InKept Event b b2 ⊎ ((b.unmade ≡ None) × (a ≡ refused 92) × (b2 ≡ b))

-- ---- a link

-- each of two cores has a link more, over a ring whose first side is this one
pub record LinksBoth (a b side : ℕ) (cores cores2 : List TheCore) : Type 0 where
  pub first : TheCore
  pub first_is : slice_get cores a ≡ Some first
  pub first_whole : IsWhole first
  pub second : TheCore
  pub second_is : slice_get cores b ≡ Some second
  pub second_whole : IsWhole second
  pub rest : cores2 ≡ slice_set (slice_set cores a (linked first (core_id b) side)) b (linked second (core_id a) (side + 1))
