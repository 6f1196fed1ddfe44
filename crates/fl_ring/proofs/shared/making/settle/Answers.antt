use Rattle.std.proofs.Common.{rules, ◌≡◌, ◌+◌, ◌*◌, subst, arith}
use Rattle.fl_ring.specs.SharedSeats.{Sender, Receiver, RingNear, sender_of}
use Rattle.fl_ring.proofs.SharedMakes.{joins, settled_ring}
use Rattle.fl_ring.proofs.SharedSteps.{allows_compare}
use Rattle.fl_ring.proofs.shared.making.settle.Goals as goal

pub join_seat-requires : goal.join_seat-requires
join_seat-requires c =
    let tx = c.tx.invariant in
    let rx = c.rx.invariant in
    let wide : c.deref.result.now.shared.table_id.words ≡ 8 * c.tx.inside.seat.me.0.size + 8 = search rules in
    (search rules, search rules, rx.1.none_held, omega arith, joins _ _ _ _ _ tx.1.writes rx.1.reads)

pub load-requires : goal.load-requires
load-requires c =
    let wide : c.deref-2.result.now.shared.table_id.words ≡ 8 * c.tx.inside.seat.me.0.size + 8 = search rules in
    (search rules, omega arith, allows_compare _ _ _ _ _ (search rules) (search rules))

pub returns : goal.returns
returns c =
    let a = c.tx.inside.seat in
    let b = c.rx.inside.seat in
    let wide : c.deref-2.result.now.shared.table_id.words ≡ 8 * a.me.0.size + 8 = search rules in
    let other_wide : c.deref-2.result.now.shared.table_id.words ≡ 8 * b.me.0.size + 8 = search rules in
    let same : b.me.0.size ≡ a.me.0.size = omega arith in
    let near = settled_ring a b _ c.join_seat.ensures.2 c.tx.invariant.0.few same c.load.ensures.2.1 in
    record { near = subst (λ (s : Sender). RingNear s c.args.rx) c.tx.view_is (subst (λ (r : Receiver). RingNear (sender_of a) r) c.rx.view_is near) }
