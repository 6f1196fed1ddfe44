use Rattle.std.proofs.Common.{rules, arith}
use Rattle.fl_ring.proofs.NewRings.{new_ring, new_ring_shows}
use Rattle.fl_ring.proofs.one_ring.OneRing.new.Goals as goal

pub returns-in_default-clause-bad_size : goal.returns-in_default-clause-bad_size
returns-in_default-clause-bad_size c = search rules

pub returns-clause-sized : goal.returns-clause-sized
returns-clause-sized c = search rules

pub returns-clause-bad_size : goal.returns-clause-bad_size
returns-clause-bad_size c = search rules

pub invariant_of-result : goal.invariant_of-result
invariant_of-result c =
    new_ring c.args.size c.in-Ok.words.items c.new.result c.new-2.result (omega (arith, c.if-size-lt2.false)) (omega (arith, c.if-size-gt-MAX_QUEUE.false)) (c.in-Ok.ensures.items_if_clones_equal (λ _ e. e)) c.new.ensures.start c.new-2.ensures.start

pub returns-clause-made : goal.returns-clause-made
returns-clause-made c = new_ring_shows c.args.size c.in-Ok.words.items c.new.result c.new-2.result (c.in-Ok.ensures.items_if_clones_equal (λ _ e. e)) c.new.ensures.start c.new-2.ensures.start
