-- Where memory may be wanting for a turn. Public promises rest on this file.
use Rattle.std.specs.Prelude.{ℕ, ◌≡◌, slice_get, Some}
use Rattle.fl_base.specs.declared.identity.EndId.{EndId}
use Rattle.fl_link.specs.Queue.{TheQueue, QueueTakes}
use Rattle.fl_ring.specs.Duo.{TheDuo}
use Rattle.fl_core.specs.declared.wiring.Inlet.{Inlet}
use Rattle.fl_core.specs.declared.wiring.Inlet.TheVariants as inlet
use Rattle.fl_core.specs.View.{TheCore}
use Rattle.fl_model.specs.Events.{DispatcherId}
use Rattle.fl_world_refines.specs.View.{TheWorld, ring_at}
use Rattle.fl_world_refines.specs.Taking.{IsDue}
use Rattle.fl_world_events.specs.declared.taking.DueEnd.{DueEnd}
use Rattle.fl_world_events.specs.Wants.{HandlesCall, HandlesOnRing, HandlesArrival}

-- the turn of dispatcher d of this core handles a call at the end at place e, over where that takes from
abbrev pub HandlesOver : Inlet → ℕ → ℕ → TheCore → TheWorld → Type 0
HandlesOver (inlet.Queue q) d e k w = (p : TheQueue) × (slice_get w.queues q ≡ Some p) × HandlesCall QueueTakes d e k.board p
HandlesOver (inlet.Side m) d e k w = (r : TheDuo) × (slice_get w.rings (ring_at m) ≡ Some r) × HandlesOnRing m d e k.board r
HandlesOver inlet.Arrivals d e k w = HandlesArrival d e k

-- so it is at core n, for the end that was found to be due
abbrev pub HandlesFrom : Inlet → ℕ → DueEnd → TheWorld → Type 0
HandlesFrom i n at w = (k : TheCore) × (slice_get w.cores n ≡ Some k) × HandlesOver i at.dispatcher at.end k w

-- a dispatcher's turn handles a call, at the end that is due there
pub record WantsToHandle (d : DispatcherId) (w : TheWorld) : Type 0 where
  pub end : ℕ
  pub name : EndId
  pub takes_from : Inlet
  pub due : IsDue w d end name takes_from
  pub handles : HandlesOver takes_from d.place end due.core w
