use Rattle.std.proofs.Common.{refl, get_or}
use Rattle.fl_history_rings.proofs.Plans.{no_ring}
use Rattle.fl_history_shares.proofs.Numbered.{one_ring_more}
use Rattle.fl_history_shares.proofs.dealing.number_sides.Goals as goal

pub loop-k-preserved : goal.loop-k-preserved
loop-k-preserved c =
    one_ring_more c.args.cores c.args.rings.now c.loop-k.k (get_or c.args.rings.now c.loop-k.k no_ring) no_ring c.loop-k.shares c.in_ok-shares-2.shares
    c.in_ok-shares-3.shares c.loop-k-test.true refl c.loop-k.invariant c.in_ok-shares-2.ensures.gives c.in_ok-shares-3.ensures.gives
