use Rattle.fl_core.proofs.Seated.{lists_kinds}
use Rattle.fl_core.proofs.Kept.{board_kept}
use Rattle.fl_core.proofs.Acting.{on_board}
use Rattle.fl_core.proofs.one_core.Core.register.Goals as goal

pub invariant_of-self : goal.invariant_of-self
invariant_of-self g c = board_kept _ c.register.new.self c.self.invariant (lists_kinds c.self.inside.board c.register.new.self c.args.e _ c.register.ensures.registers)

pub returns-clause-registers : goal.returns-clause-registers
returns-clause-registers g c = on_board c.args.self.now _ c.self.view_is _ c.register.new.self c.register.ensures.registers
