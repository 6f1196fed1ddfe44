use Rattle.fl_core.proofs.Seated.{turn_kinds}
use Rattle.fl_core.proofs.Kept.{board_kept}
use Rattle.fl_core.proofs.Acting.{on_board}
use Rattle.fl_core.proofs.one_core.Core.turn.Goals as goal

pub invariant_of-self : goal.invariant_of-self
invariant_of-self g c = board_kept _ c.turn.new.self c.self.invariant (turn_kinds g.T.TakeSide.takes c.args.dispatcher c.args.e _ _ c.turn.result c.turn.ensures.turns)

pub returns-clause-turns : goal.returns-clause-turns
returns-clause-turns g c = on_board c.args.self.now _ c.self.view_is _ c.turn.new.self c.turn.ensures.turns
