use Rattle.std.proofs.Common.{◌<◌, ◌≤◌, ◌^◌, length, subst, sym, rules, arith}
use Rattle.fl_ring.specs.SharedSides.{TheSide, free_of}
use Rattle.fl_ring.proofs.SharedDuoSides.{side_writes}
use Rattle.fl_ring.proofs.shared.duo_sides.SharedSide.write.Goals as goal

pub put_frag-requires-clause-number : goal.put_frag-requires-clause-number
put_frag-requires-clause-number c = search rules

pub invariant_of-self : goal.invariant_of-self
invariant_of-self c =
    let i = c.self.inside in
    let h = c.self.invariant.1 in
    let room = subst (λ (s : TheSide). 1 ≤ free_of s) (sym c.self.view_is) c.requires.room in
    let unspent = subst (λ (s : TheSide). length s.sent < 2 ^ 62) (sym c.self.view_is) c.requires.unspent in
    side_writes _ _ i.seat c.put_frag.new.seat (record { base = i.base; other = i.other; put = i.put; take = i.take; known = i.known; told = i.told }) c.advance.new.self c.index-taken.result c.stamp-stamped.result
    c.self.invariant.0 h c.put_frag.ensures.table c.put_frag.ensures.sent c.advance.ensures.next c.index-taken.ensures.index
    (omega (arith, room, h.put_index, h.known_is)) (omega (arith, unspent, h.put_index))

pub returns : goal.returns
returns c = search rules
