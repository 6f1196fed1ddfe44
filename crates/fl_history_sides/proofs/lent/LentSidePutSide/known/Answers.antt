use Rattle.std.proofs.Common.{◌∙◌}
use Rattle.fl_history_sides.proofs.OneLent.{known_so}
use Rattle.fl_history_sides.proofs.lent.LentSidePutSide.known.Goals as goal

pub returns : goal.returns
returns c =
    let i = c.self.inside in
    record { known = c.known.ensures.known ∙ known_so i.core i.sides.items i.at c.index.result.now c.index.ensures c.self.invariant c.args.self.now c.self.view_is }
