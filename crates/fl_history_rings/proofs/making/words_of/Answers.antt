use Rattle.std.proofs.Common.{refl, get_or, arith}
use Rattle.fl_history_rings.specs.Rule.{no_side}
use Rattle.fl_history_rings.proofs.Words.{one_more_way, all_ways}
use Rattle.fl_history_rings.proofs.making.words_of.Goals as goal

pub loop-k-init : goal.loop-k-init
loop-k-init c = record { so_far = refl }

pub loop-k-preserved : goal.loop-k-preserved
loop-k-preserved c = record { so_far = one_more_way c.args.sides.now c.loop-k.k (get_or c.args.sides.now c.loop-k.k no_side) no_side c.loop-k.count c.in-Some.more c.loop-k-test.true refl c.loop-k.invariant.so_far c.in-Some.ensures }

pub returns : goal.returns
returns c = all_ways c.args.sides.now c.loop-k.k c.loop-k.count (omega (arith, c.loop-k-test.false, c.loop-k.auto.k-end)) c.loop-k.invariant.so_far
