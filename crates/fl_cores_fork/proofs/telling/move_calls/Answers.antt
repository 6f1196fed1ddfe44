use Rattle.std.proofs.Common.{map}
use Rattle.fl_value_data.specs.Value.{call_of}
use Rattle.fl_cores_fork.proofs.Moving.{moves_one}
use Rattle.fl_cores_fork.proofs.telling.move_calls.Goals as goal

pub loop-k-preserved : goal.loop-k-preserved
loop-k-preserved c =
    let one = moves_one c.args.jobs.now.items c.loop-k.jobs.items c.move_at.new.jobs.items c.args.places.now c.loop-k.k (map call_of c.loop-k.calls.items)
    (map call_of c.move_at.new.calls.items) c.loop-k-test.true c.requires.once c.loop-k.invariant.rest c.loop-k.invariant.moved
    c.in_ok-move_at.ensures.moved c.in_ok-move_at.ensures.ends c.in_ok-move_at.ensures.others in
    record { moved = one.moved; rest = one.rest }
