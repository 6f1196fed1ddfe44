use Rattle.std.proofs.Common.{◌≡◌, ◌<◌, ◌^◌, length, ap, ◌∙◌, sym, arith}
use Rattle.std.proofs.lemmas.Bool.{leb-true, leb-false}
use Rattle.fl_link.proofs.Conserved.{bare-ack}
use Rattle.fl_ring.specs.SharedSides.{TheSide, free_of}
use Rattle.fl_ring.proofs.SharedDuoSides.{short_before, written_bare}
use Rattle.fl_ring.proofs.shared.duo_sides.SharedSide.try_put.Goals as goal

pub returns-then-not-has_free-clause-full : goal.returns-then-not-has_free-clause-full
returns-then-not-has_free-clause-full c = λ _.
    let h = c.self.invariant.1 in
    let sent : length c.self.inside.seat.me.0.mine.put.sent ≡ length c.args.self.now.sent = ap (λ (s : TheSide). length s.sent) c.self.view_is in
    let unspent : length c.args.self.now.sent < 2 ^ 62 = omega (arith, sent, h.put_index, h.most, c.index.ensures.index, c.if-index-eq-SPENT.false) in
    let short = leb-false 2 (free_of c.has_free.new.self) (sym c.has_free.ensures.free ∙ c.if-not-has_free.true) in
    (unspent, c.has_free.ensures.looked, short_before 2 c.args.self.now c.has_free.new.self c.has_free.ensures.looked short, short)

pub returns-clause-placed : goal.returns-clause-placed
returns-clause-placed c =
    let h = c.self.invariant.1 in
    let sent : length c.self.inside.seat.me.0.mine.put.sent ≡ length c.args.self.now.sent = ap (λ (s : TheSide). length s.sent) c.self.view_is in
    let unspent : length c.args.self.now.sent < 2 ^ 62 = omega (arith, sent, h.put_index, h.most, c.index.ensures.index, c.if-index-eq-SPENT.false) in
    let m = c.has_free.new.self in
    (bare-ack c.args.frag.now ∙ c.requires, unspent, (m, c.has_free.ensures.looked, leb-true 2 (free_of m) (sym c.has_free.ensures.free ∙ c.if-not-has_free.false), c.write.ensures.written ∙ written_bare m c.args.frag.now))
