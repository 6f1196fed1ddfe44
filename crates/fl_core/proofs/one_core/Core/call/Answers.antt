use Rattle.fl_core.proofs.Seated.{end_kinds}
use Rattle.fl_core.proofs.Kept.{board_kept}
use Rattle.fl_core.proofs.Acting.{on_board}
use Rattle.fl_core.proofs.one_core.Core.call.Goals as goal

pub invariant_of-self : goal.invariant_of-self
invariant_of-self c = board_kept _ c.call.new.self c.self.invariant (end_kinds c.self.inside.board c.call.new.self c.args.e _ c.call.ensures.calls)

pub returns-clause-calls : goal.returns-clause-calls
returns-clause-calls c = on_board c.args.self.now _ c.self.view_is _ c.call.new.self c.call.ensures.calls
