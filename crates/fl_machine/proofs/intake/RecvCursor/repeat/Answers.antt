use Rattle.std.proofs.Common.{◌≡◌, ◌-◌, suc, arith}
use Rattle.fl_machine.proofs.Intakes.{times_at, repeats}
use Rattle.fl_machine.proofs.intake.RecvCursor.repeat.Goals as goal

pub overflow_sub-from : goal.overflow_sub-from
overflow_sub-from c =
    let least = (times_at c.args.ops.now c.args.self.now c.args.turns c.requires.op c.requires.stance).0 in
    omega (arith, least, c.from.ensures)

pub enter-requires : goal.enter-requires
enter-requires c = (times_at c.args.ops.now c.args.self.now c.args.turns c.requires.op c.requires.stance).1

pub returns : goal.returns
returns c =
    let least = (times_at c.args.ops.now c.args.self.now c.args.turns c.requires.op c.requires.stance).0 in
    let many : c.args.turns ≡ suc (c.from.result - 1) = omega (arith, least, c.from.ensures) in
    repeats c.args.ops.now c.args.self.now c.enter.new.self c.args.turns (c.from.result - 1) c.requires.op c.requires.stance many c.enter.ensures.loops c.enter.ensures.others
