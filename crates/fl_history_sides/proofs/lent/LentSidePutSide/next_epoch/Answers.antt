use Rattle.std.proofs.Common.{◌∙◌}
use Rattle.fl_history_sides.proofs.OneLent.{epoch_so}
use Rattle.fl_history_sides.proofs.lent.LentSidePutSide.next_epoch.Goals as goal

pub returns-clause-epoch : goal.returns-clause-epoch
returns-clause-epoch c =
    let i = c.self.inside in
    c.next_epoch.ensures.epoch ∙ epoch_so i.core i.sides.items i.at c.index.result.now c.index.ensures c.self.invariant c.args.self.now c.self.view_is
