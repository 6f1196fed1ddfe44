use Rattle.std.proofs.Common.{refl}
use Rattle.fl_ring.specs.SharedSides.{side_of_seat, side_missed, side_seen}
use Rattle.fl_ring.proofs.Sighted.{side_moves}
use Rattle.fl_ring.proofs.shared.duo_sides.SharedSide.try_peek.Goals.{in-None, in-Some}
use Rattle.fl_ring.proofs.shared.duo_sides.SharedSide.try_peek.Goals as goal

pub invariant_of-self : goal.invariant_of-self
invariant_of-self c =
    let i = c.self.inside in
    let h = c.self.invariant.1 in
    elim c.match-peek_frag.branch [
      | in-None w ↦
          side_moves _ _ i.seat c.peek_frag.new.seat (record { base = i.base; other = i.other; put = i.put; take = i.take; known = i.known; told = i.told }) (side_missed (side_of_seat i.seat)) i.take c.peek_frag.new.known
          c.self.invariant.0 h w.in-None.ensures.seen.1 refl refl refl refl refl h.take_index refl h.told_got c.peek_frag.ensures.known c.peek_frag.ensures.seat
      | in-Some w ↦
          side_moves _ _ i.seat c.peek_frag.new.seat (record { base = i.base; other = i.other; put = i.put; take = i.take; known = i.known; told = i.told }) (side_seen (side_of_seat i.seat) w.in-Some.frag) i.take
          c.peek_frag.new.known c.self.invariant.0 h w.in-Some.ensures.seen.1 refl refl refl refl refl h.take_index refl h.told_got c.peek_frag.ensures.known c.peek_frag.ensures.seat
    ]
