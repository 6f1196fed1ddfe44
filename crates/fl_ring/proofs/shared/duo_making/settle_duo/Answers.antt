use Rattle.std.proofs.Common.{rules, ◌≡◌, ◌*◌, ap, sym, ◌∙◌, arith}
use Rattle.std.proofs.Common.{subst}
use Rattle.fl_ring.specs.SharedSides.{TheSide, SidesNear, side_of_seat}
use Rattle.fl_ring.proofs.SharedDuoMakes.{duo_joins, both_size, both_holder, settled}
use Rattle.fl_ring.proofs.SharedDuoSteps.{duo_allows_compare}
use Rattle.fl_ring.proofs.shared.duo_making.settle_duo.Goals as goal

pub join_seat-requires : goal.join_seat-requires
join_seat-requires c =
    let one = c.one.invariant in
    let across = c.other.invariant in
    let wide : c.deref.result.now.shared.table_id.words ≡ 16 * c.one.inside.seat.me.0.size = search rules in
    (search rules, search rules, across.1.none_held, omega (arith, one.0.some), duo_joins _ _ _ _ _ _ one.0.side across.0.side)

pub load-requires : goal.load-requires
load-requires c =
    let one = c.one.invariant in
    let across = c.other.invariant in
    let v = c.one.inside.seat.me.0 in
    let w = c.other.inside.seat.me.0 in
    let wide : c.deref-2.result.now.shared.table_id.words ≡ 16 * v.size = search rules in
    let across_wide : c.deref-2.result.now.shared.table_id.words ≡ 16 * w.size = search rules in
    let same : v.size ≡ w.size = omega arith in
    let key : c.deref-2.result.now.shared.key.size ≡ v.size = search rules in
    let joined = c.join_seat.ensures.2 in
    (search rules, omega (arith, one.0.some), duo_allows_compare _ _ _ _ _ _ (key ∙ sym (ap (λ m. m.0.size) joined ∙ both_size v w one.0.side)) (ap (λ m. m.0.holder) joined ∙ both_holder v w one.0.side))

pub returns-clause-there : goal.returns-clause-there
returns-clause-there c =
    let one = c.one.invariant in
    let a = c.one.inside.seat in
    let b = c.other.inside.seat in
    let wide : c.deref-2.result.now.shared.table_id.words ≡ 16 * a.me.0.size = search rules in
    let across_wide : c.deref-2.result.now.shared.table_id.words ≡ 16 * b.me.0.size = search rules in
    let same : a.me.0.size ≡ b.me.0.size = omega arith in
    let near = settled a b _ one.0.side same c.join_seat.ensures.2 (c.load.ensures.2.1, c.load.ensures.2.2) in
    subst (λ (s : TheSide). SidesNear s c.args.other) c.one.view_is (subst (λ (s : TheSide). SidesNear (side_of_seat a) s) c.other.view_is near.0)

pub returns-clause-back : goal.returns-clause-back
returns-clause-back c =
    let one = c.one.invariant in
    let a = c.one.inside.seat in
    let b = c.other.inside.seat in
    let wide : c.deref-2.result.now.shared.table_id.words ≡ 16 * a.me.0.size = search rules in
    let across_wide : c.deref-2.result.now.shared.table_id.words ≡ 16 * b.me.0.size = search rules in
    let same : a.me.0.size ≡ b.me.0.size = omega arith in
    let near = settled a b _ one.0.side same c.join_seat.ensures.2 (c.load.ensures.2.1, c.load.ensures.2.2) in
    subst (λ (s : TheSide). SidesNear c.args.other s) c.one.view_is (subst (λ (s : TheSide). SidesNear s (side_of_seat a)) c.other.view_is near.1)
