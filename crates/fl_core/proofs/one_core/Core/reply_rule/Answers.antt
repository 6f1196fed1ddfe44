use Rattle.fl_core.proofs.Seated.{end_kinds}
use Rattle.fl_core.proofs.Kept.{board_kept}
use Rattle.fl_core.proofs.Acting.{on_board}
use Rattle.fl_core.proofs.one_core.Core.reply_rule.Goals as goal

pub invariant_of-self : goal.invariant_of-self
invariant_of-self c = board_kept _ c.reply_rule.new.self c.self.invariant (end_kinds c.self.inside.board c.reply_rule.new.self c.args.e _ c.reply_rule.ensures.sets)

pub returns-clause-sets : goal.returns-clause-sets
returns-clause-sets c = on_board c.args.self.now _ c.self.view_is _ c.reply_rule.new.self c.reply_rule.ensures.sets
