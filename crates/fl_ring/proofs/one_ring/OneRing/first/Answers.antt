use Rattle.std.proofs.Common.{ℕ, ◌≡◌, ◌+◌, ◌-◌, ◌*◌, ◌<◌, ap, ◌∙◌, get_or}
use Rattle.fl_link.specs.Cursor.{epoch_at}
use Rattle.fl_ring.specs.Way.{slot, standing}
use Rattle.fl_ring.specs.Ring.{TheRing}
use Rattle.fl_ring.proofs.RingSteps.{first_of, first_or_none, slot_at_zero}
use Rattle.fl_ring.proofs.one_ring.OneRing.first.Goals as goal

pub returns : goal.returns
returns c =
    let i = c.self.inside in
    let r = c.self.invariant.1 in
    let at : 8 * c.place.result ≡ slot 0 i.put.size i.take.index = slot_at_zero c.place.result i.take.index i.take.size i.put.size c.place.ensures.place c.self.invariant.0 in
    let turn : c.epoch.result ≡ epoch_at i.put.size i.take.index = c.epoch.ensures.epoch ∙ ap (λ (x : ℕ). epoch_at x i.take.index) c.self.invariant.0 in
    let found = first_of 0 i.put.size i.words.items (get_or i.words.items (8 * i.put.size) 0) i.put.index i.take.index (8 * c.place.result) c.epoch.result c.look.result r.marked r.told_taken r.taken_sent at turn (rw c.deref.ensures.value at c.look.ensures.look) in
    record { first = first_or_none c.look.result (standing 0 i.put.size i.words.items i.take.index (i.put.index - i.take.index)) c.args.self.now.items (standing 0 i.put.size i.words.items (i.take.index + 1) (i.put.index - (i.take.index + 1))) (i.take.index ≡ i.put.index) (i.take.index < i.put.index) (ap (λ (s : TheRing). s.items) c.self.view_is) found }
