use Rattle.std.proofs.Common.{subst, sym, List, ℕ}
use Rattle.fl_ring.specs.Ring.{TheRing, RingStands}
use Rattle.fl_ring.proofs.RingSteps.{ring_stands}
use Rattle.fl_ring.proofs.one_ring.OneRing.words.Goals as goal

pub returns : goal.returns
returns c =
    let i = c.self.inside in
    let stands = subst (λ (r : TheRing). RingStands i.words.items r) c.self.view_is (ring_stands i.words.items i.put.size i.put.index i.take.index c.self.invariant.1) in
    record { stands = subst (λ (ws : List ℕ). RingStands ws c.args.self.now) (sym c.as_slice.ensures.value) stands }
