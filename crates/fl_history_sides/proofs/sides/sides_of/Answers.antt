use Rattle.std.proofs.Common.{arith}
use Rattle.fl_history_sides.proofs.Made.{first_step}
use Rattle.fl_history_sides.proofs.sides.sides_of.Goals as goal

pub loop-k-preserved : goal.loop-k-preserved
loop-k-preserved c = record {
  so_far = first_step c.args.core.now c.args.numbers.now c.loop-k.k c.loop-k.sides.items c.push.new.self.items c.in-Ok.side (omega (arith, c.loop-k-test.true)) c.loop-k.invariant.so_far c.in-Ok.ensures.own.0 c.in-Ok.ensures.own.1 c.in-Ok-push.ensures.items;
}
