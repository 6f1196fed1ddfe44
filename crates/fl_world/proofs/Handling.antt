-- Memory is wanting for a turn only where it handles a call, in the world: w is the world before, and base the same by its fields.
use Rattle.std.proofs.Common.{◌≡◌, sym, ◌∙◌, subst, ℕ, ◌<◌, length, slice_get, slice_index_or, Some, Result, Ok, Err, OnErr}
use Rattle.std.specs.declared.alloc.AllocError.{AllocError}
use Rattle.fl_base.specs.declared.identity.EndId.{EndId}
use Rattle.fl_link.specs.Queue.{TheQueue, QueueTakes}
use Rattle.fl_ring.specs.Duo.{TheDuo}
use Rattle.fl_core.specs.declared.wiring.Inlet.{Inlet}
use Rattle.fl_core.specs.declared.wiring.Inlet.TheVariants as inlet
use Rattle.fl_core.specs.View.{TheCore}
use Rattle.fl_model.specs.Events.{DispatcherId}
use Rattle.fl_world_refines.specs.View.{TheWorld, ring_at}
use Rattle.fl_world_refines.specs.Taking.{IsDue}
use Rattle.fl_world_events.specs.declared.taking.DueEnd.{DueEnd}
use Rattle.fl_world_events.specs.Wants.{HandlesCall, HandlesOnRing, HandlesArrival}
use Rattle.fl_world_events.proofs.Lifts.{one_value, stands}
use Rattle.fl_world.specs.Handling.{HandlesOver, HandlesFrom, WantsToHandle}

-- ---- by what was lent

module _ (w base : TheWorld) (same : base ≡ w) (n : ℕ) (below : n < length base.cores) (at : DueEnd)
    (k read : TheCore) (value : read ≡ slice_index_or base.cores n read) (view : k ≡ read) where
  here : slice_get base.cores n ≡ Some k
  here = stands base.cores n k read below value view

  pub from_queue : (q : ℕ) → q < length base.queues → (p pread : TheQueue) → pread ≡ slice_index_or base.queues q pread → p ≡ pread
      → HandlesCall QueueTakes at.dispatcher at.end k.board p → HandlesFrom (inlet.Queue q) n at w
  from_queue q there p pread pvalue pview h =
      subst (λ (x : TheWorld). HandlesFrom (inlet.Queue q) n at x) same (k, here, (p, stands base.queues q p pread there pvalue pview, h))

  -- the ring's place is i
  pub from_side : (m i : ℕ) → i ≡ ring_at m → i < length base.rings → (r rread : TheDuo) → rread ≡ slice_index_or base.rings i rread → r ≡ rread
      → HandlesOnRing m at.dispatcher at.end k.board r → HandlesFrom (inlet.Side m) n at w
  from_side m i place there r rread rvalue rview h =
      let ring_is : slice_get base.rings (ring_at m) ≡ Some r = subst (λ (j : ℕ). slice_get base.rings j ≡ Some r) place (stands base.rings i r rread there rvalue rview) in
      subst (λ (x : TheWorld). HandlesFrom (inlet.Side m) n at x) same (k, here, (r, ring_is, h))

  pub from_arrivals : HandlesArrival at.dispatcher at.end k → HandlesFrom inlet.Arrivals n at w
  from_arrivals h = subst (λ (x : TheWorld). HandlesFrom inlet.Arrivals n at x) same (k, here, h)

-- ---- by the end that is due

pub wants_to_handle : {A : Type 0} (w : TheWorld) (d : DispatcherId) (e : ℕ) (name : EndId) (i : Inlet) → IsDue w d e name i → (o : Result A AllocError)
    → OnErr o (HandlesFrom i d.core (record { dispatcher = d.place; end = e; name = name }) w) → OnErr o (WantsToHandle d w)
wants_to_handle w d e name i due (Ok a) h = tt
wants_to_handle w d e name i due (Err error) h = record {
  end = e;
  name = name;
  takes_from = i;
  due = due;
  handles = subst (λ (k : TheCore). HandlesOver i d.place e k w) (one_value h.0 due.core (sym h.1 ∙ due.core_is)) h.2;
}
