use Rattle.std.proofs.Common.{arith}
use Rattle.fl_machine.proofs.Intakes.{stance_depth}
use Rattle.fl_machine.proofs.intake.RecvCursor.is_run.Goals as goal

pub offset_bounds-self-self : goal.offset_bounds-self-self
offset_bounds-self-self c = let few = stance_depth c.args.ops.now c.args.self.now c.requires.stance in omega (arith, few)

pub bounds-self-self : goal.bounds-self-self
bounds-self-self c = let few = stance_depth c.args.ops.now c.args.self.now c.requires.stance in omega (arith, few)
