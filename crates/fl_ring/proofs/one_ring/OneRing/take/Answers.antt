use Rattle.std.proofs.Common.{◌+◌, ◌∙◌, ap, subst, sym}
use Rattle.fl_link.specs.Cursor.{TheCursor}
use Rattle.fl_base.specs.Control.{bare}
use Rattle.fl_link.specs.Looks.{saw, saw_ack, found, found_ack}
use Rattle.fl_link.specs.Queue.{front_of}
use Rattle.fl_link.specs.declared.sides.Sight.TheVariants.{Data, Acknowledgement, Empty}
use Rattle.fl_ring.specs.Ring.{ring_of, RingTakes}
use Rattle.fl_ring.proofs.RingSteps.{takes_first, takes_found, takes_ack, front_data, front_ack}
use Rattle.fl_ring.proofs.Fronts.{taken_front}
use Rattle.fl_ring.proofs.one_ring.OneRing.take.Goals as goal

pub returns-then-is_ack_only-clause-look : goal.returns-then-is_ack_only-clause-look
returns-then-is_ack_only-clause-look c =
    let i = c.self.inside in
    let step = takes_first i.words.items i.put.size i.put.index i.take.index c.args.self.now c.in-Some.frag c.in-Some.ensures.first.0 c.self.invariant.1 c.self.view_is c.in-Some.ensures.first.1 in
    subst (λ (p : TheCursor). RingTakes c.args.self.now found_ack (ring_of i.words.items i.put.size i.put.index p.index)) (sym c.advance.ensures.next)
    (takes_ack c.args.self.now (ring_of i.words.items i.put.size i.put.index (i.take.index + 1)) c.in-Some.frag (ring_of i.words.items i.put.size i.put.index (i.take.index + 1)).items step (sym c.is_ack_only.ensures ∙ c.if-is_ack_only.true))

pub returns-clause-look : goal.returns-clause-look
returns-clause-look c =
    let i = c.self.inside in
    let step = takes_first i.words.items i.put.size i.put.index i.take.index c.args.self.now c.in-Some.frag c.in-Some.ensures.first.0 c.self.invariant.1 c.self.view_is c.in-Some.ensures.first.1 in
    subst (λ (p : TheCursor). RingTakes c.args.self.now (found (bare c.in-Some.frag)) (ring_of i.words.items i.put.size i.put.index p.index)) (sym c.advance.ensures.next)
    (takes_found c.args.self.now (ring_of i.words.items i.put.size i.put.index (i.take.index + 1)) c.in-Some.frag (ring_of i.words.items i.put.size i.put.index (i.take.index + 1)).items step (sym c.is_ack_only.ensures ∙ c.if-is_ack_only.false))

pub returns-in_default-clause-data : goal.returns-in_default-clause-data
returns-in_default-clause-data c frag = taken_front c.args.self.now.items Empty (saw frag) (ap front_of c.in_default.ensures.first)

pub returns-in_default-clause-acknowledgement : goal.returns-in_default-clause-acknowledgement
returns-in_default-clause-acknowledgement c = taken_front c.args.self.now.items Empty saw_ack (ap front_of c.in_default.ensures.first)

pub returns-then-is_ack_only-clause-data : goal.returns-then-is_ack_only-clause-data
returns-then-is_ack_only-clause-data c frag =
    let (rest, first) = c.in-Some.ensures.first in
    taken_front c.args.self.now.items Acknowledgement (saw frag) (front_ack c.args.self.now.items c.in-Some.frag rest first (sym c.is_ack_only.ensures ∙ c.if-is_ack_only.true))

pub returns-clause-data : goal.returns-clause-data
returns-clause-data c frag =
    let (rest, first) = c.in-Some.ensures.first in
    taken_front c.args.self.now.items (Data c.in-Some.frag) (saw frag) (front_data c.args.self.now.items c.in-Some.frag rest first (sym c.is_ack_only.ensures ∙ c.if-is_ack_only.false))

pub returns-clause-acknowledgement : goal.returns-clause-acknowledgement
returns-clause-acknowledgement c =
    let (rest, first) = c.in-Some.ensures.first in
    taken_front c.args.self.now.items (Data c.in-Some.frag) saw_ack (front_data c.args.self.now.items c.in-Some.frag rest first (sym c.is_ack_only.ensures ∙ c.if-is_ack_only.false))
