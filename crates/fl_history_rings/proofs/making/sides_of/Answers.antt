use Rattle.std.proofs.Common.{refl, get_or, arith}
use Rattle.fl_history_rings.proofs.Plans.{no_ring, one_more_ring, all_rings}
use Rattle.fl_history_rings.proofs.making.sides_of.Goals as goal

pub loop-k-preserved : goal.loop-k-preserved
loop-k-preserved c = record { so_far = one_more_ring c.args.rings.now c.loop-k.k (get_or c.args.rings.now c.loop-k.k no_ring) no_ring _ _ c.loop-k-test.true refl c.loop-k.invariant.so_far c.in-Ok.ensures.more }

pub returns : goal.returns
returns c = record { sides = all_rings c.args.rings.now c.loop-k.k c.loop-k.sides.items (omega (arith, c.loop-k-test.false, c.loop-k.auto.k-end)) c.loop-k.invariant.so_far }
