use Rattle.std.proofs.Common.{ℕ, ◌≡◌, ◌*◌, List, set, ◌∙◌, subst}
use Rattle.fl_link.specs.Looks.{told}
use Rattle.fl_ring.specs.Ring.{TheRing, IsRing, ring_of, RingTakes}
use Rattle.fl_ring.proofs.RingSteps.{tell_stands, takes_told}
use Rattle.fl_ring.proofs.one_ring.OneRing.tell.Goals as goal

-- what the code writes
written : (ws : List ℕ) (k n t taken : ℕ) → k ≡ n → t ≡ taken → set ws (8 * n) taken ≡ set ws (8 * k) t
written ws k n t taken e d = cc

pub invariant_of-self : goal.invariant_of-self
invariant_of-self c =
    let i = c.self.inside in
    let same = written i.words.items c.size-told.result i.put.size c.index.result i.take.index (c.size-told.ensures.size ∙ c.self.invariant.0) c.index.ensures.index in
    (c.self.invariant.0, subst (λ (ws : List ℕ). IsRing ws i.put.size i.put.index i.take.index) same (tell_stands i.words.items i.put.size i.put.index i.take.index c.self.invariant.1))

pub returns : goal.returns
returns c =
    let i = c.self.inside in
    let same = written i.words.items c.size-told.result i.put.size c.index.result i.take.index (c.size-told.ensures.size ∙ c.self.invariant.0) c.index.ensures.index in
    record {
      tell = subst (λ (s : TheRing). RingTakes s told (ring_of (set i.words.items (8 * c.size-told.result) c.index.result) i.put.size i.put.index i.take.index)) c.self.view_is
          (subst (λ (ws : List ℕ). RingTakes (ring_of i.words.items i.put.size i.put.index i.take.index) told (ring_of ws i.put.size i.put.index i.take.index)) same (takes_told i.words.items i.put.size i.put.index i.take.index c.self.invariant.1));
    }
