use Rattle.std.proofs.Common.{arith}
use Rattle.fl_machine.proofs.Intakes.{back_at, turns_over, turns_on_again}
use Rattle.fl_machine.proofs.intake.RecvCursor.turn.Goals as goal

pub overflow_sub-last : goal.overflow_sub-last
overflow_sub-last c = (back_at c.args.ops.now c.args.self.now c.requires.op c.requires.stance).0

pub offset_bounds-self-last : goal.offset_bounds-self-last
offset_bounds-self-last c = let b = (back_at c.args.ops.now c.args.self.now c.requires.op c.requires.stance).1 in omega (arith, b)

pub bounds-self-last : goal.bounds-self-last
bounds-self-last c = let b = back_at c.args.ops.now c.args.self.now c.requires.op c.requires.stance in omega (arith, b.0, b.1)

pub returns-then-inner-eq0 : goal.returns-then-inner-eq0
returns-then-inner-eq0 c = turns_over c.args.ops.now c.args.self.now c.requires.op c.requires.stance c.if-inner-eq0.true

pub returns : goal.returns
returns c = turns_on_again c.args.ops.now c.args.self.now c.enter.new.self c.requires.op c.requires.stance c.if-inner-eq0.false c.enter.ensures.loops c.enter.ensures.others
