use Rattle.std.proofs.Common.{rules}
use Rattle.fl_stream.proofs.Sides.{sees_twice}
use Rattle.fl_stream.proofs.making.settle.Goals as goal

pub returns-clause-receiver : goal.returns-clause-receiver
returns-clause-receiver c =
    let twice = sees_twice c.rx.inside.consumer c.slots_beside.new.consumer c.slots_beside-2.new.self c.slots_beside.ensures.consumer c.slots_beside-2.ensures.looked in
    search (rules, twice)
