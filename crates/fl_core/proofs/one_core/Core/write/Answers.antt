use Rattle.fl_core.proofs.Seated.{end_kinds}
use Rattle.fl_core.proofs.Kept.{board_kept}
use Rattle.fl_core.proofs.Writing.{writes_refused, writes_done}
use Rattle.fl_core.proofs.one_core.Core.write.Goals as goal

pub invariant_of-self-in-Ok : goal.invariant_of-self-in-Ok
invariant_of-self-in-Ok g c = board_kept _ c.write.new.self c.self.invariant (end_kinds c.self.inside.board c.write.new.self c.args.e _ c.write.ensures.writes)

pub returns-in-Err-clause-writes : goal.returns-in-Err-clause-writes
returns-in-Err-clause-writes g c = writes_refused g.P.PutSide.puts c.args.e c.args.self.now _ c.self.view_is c.args.out.now c.write.new.out c.write.new.self c.in-Err.fault c.in-Err.ensures.writes

pub returns-in-Ok-clause-writes : goal.returns-in-Ok-clause-writes
returns-in-Ok-clause-writes g c = writes_done g.P.PutSide.puts c.args.e c.args.self.now _ c.self.view_is c.args.out.now c.write.new.out c.write.new.self c.in-Ok.answer c.wake.new.self c.in-Ok.ensures.writes c.wake.ensures.triggers
