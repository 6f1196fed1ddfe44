use Rattle.fl_core.proofs.Seated.{lists_kinds}
use Rattle.fl_core.proofs.Kept.{board_kept}
use Rattle.fl_core.proofs.Acting.{on_board}
use Rattle.fl_core.proofs.one_core.Core.deregister.Goals as goal

pub invariant_of-self : goal.invariant_of-self
invariant_of-self c = board_kept _ c.deregister.new.self c.self.invariant (lists_kinds c.self.inside.board c.deregister.new.self c.args.e _ c.deregister.ensures.deregisters)

pub returns-clause-deregisters : goal.returns-clause-deregisters
returns-clause-deregisters c = on_board c.args.self.now _ c.self.view_is _ c.deregister.new.self c.deregister.ensures.deregisters
