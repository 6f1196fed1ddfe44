use Rattle.fl_core.proofs.Seated.{end_kinds}
use Rattle.fl_core.proofs.Kept.{board_kept}
use Rattle.fl_core.proofs.Acting.{on_board}
use Rattle.fl_core.proofs.one_core.Core.call_compact.Goals as goal

pub invariant_of-self : goal.invariant_of-self
invariant_of-self c = board_kept _ c.call_compact.new.self c.self.invariant (end_kinds c.self.inside.board c.call_compact.new.self c.args.e _ c.call_compact.ensures.calls)

pub returns-clause-calls : goal.returns-clause-calls
returns-clause-calls c = on_board c.args.self.now _ c.self.view_is _ c.call_compact.new.self c.call_compact.ensures.calls
