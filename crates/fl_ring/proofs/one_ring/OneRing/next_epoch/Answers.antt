use Rattle.std.proofs.Common.{ap, ◌∙◌}
use Rattle.fl_link.specs.Queue.{next_epoch_of}
use Rattle.fl_ring.specs.Ring.{TheRing, queue_of}
use Rattle.fl_ring.proofs.RingSteps.{epoch_is}
use Rattle.fl_ring.proofs.one_ring.OneRing.next_epoch.Goals as goal

pub returns : goal.returns
returns c =
    let i = c.self.inside in
    record { bit = c.epoch.ensures.bit; epoch = c.epoch.ensures.epoch ∙ epoch_is i.words.items i.put.size i.put.index i.take.index c.self.invariant.1 ∙ ap (λ (s : TheRing). next_epoch_of (queue_of s)) c.self.view_is }
