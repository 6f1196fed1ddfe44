use Rattle.std.proofs.Common.{◌∙◌}
use Rattle.fl_history_sides.proofs.OneLent.{room_so}
use Rattle.fl_history_sides.proofs.lent.LentSidePutSide.room.Goals as goal

pub returns : goal.returns
returns c =
    let i = c.self.inside in
    record { room = c.room.ensures.room ∙ room_so i.core i.sides.items i.at c.index.result.now c.index.ensures c.self.invariant c.args.self.now c.self.view_is }
