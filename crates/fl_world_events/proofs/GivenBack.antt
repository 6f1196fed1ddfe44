-- An event that leaves a core, a queue and a ring leaves what is the same core as well.
use Rattle.std.proofs.Common.{◌≡◌, sym, subst, ℕ}
use Rattle.fl_link.specs.Queue.{TheQueue}
use Rattle.fl_ring.specs.Duo.{TheDuo}
use Rattle.fl_ring.specs.declared.duo_side.DuoSide.{DuoSide}
use Rattle.fl_core.specs.View.{TheCore}
use Rattle.fl_world_events.specs.Parts.{ByQueue, ByRing}

pub by_queue_left : {Event : TheCore → TheQueue → TheCore → TheQueue → Type 0} {k k2 k3 : TheCore} {p q : TheQueue} → k3 ≡ k2
    → ByQueue Event k p k2 q → ByQueue Event k p k3 q
by_queue_left {Event = Event} {k = k} {p = p} {q = q} same by = subst (λ (x : TheCore). ByQueue Event k p x q) (sym same) by

pub by_ring_left : {m : ℕ} {Event : TheCore → DuoSide → TheCore → DuoSide → Type 0} {k k2 k3 : TheCore} {r r2 : TheDuo} → k3 ≡ k2
    → ByRing m Event k r k2 r2 → ByRing m Event k r k3 r2
by_ring_left {m = m} {Event = Event} {k = k} {r = r} {r2 = r2} same by = subst (λ (x : TheCore). ByRing m Event k r x r2) (sym same) by
