use Rattle.std.proofs.Common.{length, ap, arith}
use Rattle.std.specs.Vec.{vec_capacity}
use Rattle.fl_machine.proofs.Laid.{are_added, are_same}
use Rattle.fl_machine.proofs.rooms.Rooms.add.Goals as goal

pub returns-clause-rooms : goal.returns-clause-rooms
returns-clause-rooms c =
    let t = c.args.self.now in
    let reserved = c.in_ok-reserve.ensures in
    are_same
    (are_added (length t.block.items) (vec_capacity t.block) (vec_capacity c.reserve.new.self) t.spans.items t.owed c.args.size c.requires.rooms
    (omega (arith, reserved.ok, reserved.len, c.in-Some.ensures.1)))
    (ap length reserved.items) c.in-Ok.ensures.items c.in-Some.ensures.1
