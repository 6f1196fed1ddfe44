use Rattle.std.proofs.Common.{sym}
use Rattle.fl_world_events.proofs.Splitting.{moves_down}
use Rattle.fl_world_events.proofs.forwarding.move_down.Goals as goal

pub returns : goal.returns
returns c = record { passes = moves_down c.args.passing.now c.args.rings.now c.split_at_mut-low.result.0.now c.split_at_mut-low.result.1.now c.ring_at.result c.ring_at-2.result c.ring_at.ensures.ring c.ring_at-2.ensures.ring c.split_at_mut-low.ensures.value c.split_at_mut-low.ensures.front_len c.requires.down c.requires.from _ c.index-high-0.result c.index-high-0.is (sym c.index-high-0.is) _ c.index-low-ring_at.result c.index-low-ring_at.is (sym c.index-low-ring_at.is) _ _ _ c.move_between.ensures.passes }
