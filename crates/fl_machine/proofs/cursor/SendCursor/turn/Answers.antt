use Rattle.std.proofs.Common.{◌≡◌, ◌-◌, suc, get_or, refl, arith}
use Rattle.fl_machine.specs.Cursors.{no_loop}
use Rattle.fl_machine.proofs.Turns.{back_at, ended_turns, next_turn}
use Rattle.fl_machine.proofs.cursor.SendCursor.turn.Goals as goal

pub overflow_sub-last : goal.overflow_sub-last
overflow_sub-last c = (back_at c.args.ops.now c.args.tape.now c.args.self.now c.requires.op c.requires.location).0

pub offset_bounds-self-last : goal.offset_bounds-self-last
offset_bounds-self-last c = let b = (back_at c.args.ops.now c.args.tape.now c.args.self.now c.requires.op c.requires.location).1 in omega (arith, b)

pub bounds-self-last : goal.bounds-self-last
bounds-self-last c = let b = back_at c.args.ops.now c.args.tape.now c.args.self.now c.requires.op c.requires.location in omega (arith, b.0, b.1)

pub returns-then-inner-eq0 : goal.returns-then-inner-eq0
returns-then-inner-eq0 c = ended_turns c.args.ops.now c.args.tape.now c.args.self.now c.requires.op c.requires.location c.if-inner-eq0.true

pub returns : goal.returns
returns c =
    let turns = (get_or c.args.self.now.loops (c.args.self.now.depth - 1) no_loop).turns in
    let more : turns ≡ suc (turns - 1) = omega (arith, c.if-inner-eq0.false) in
    next_turn c.args.ops.now c.args.tape.now c.args.self.now c.enter.new.self _ turns (turns - 1) c.requires.op c.requires.location refl refl more (c.enter.ensures c.args.tape.now)
