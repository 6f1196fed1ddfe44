use Rattle.std.proofs.Common.{◌≡◌, ◌-◌, suc, refl, arith}
use Rattle.fl_machine.proofs.Turns.{times_at, repeats}
use Rattle.fl_machine.proofs.cursor.SendCursor.repeat.Goals as goal

pub overflow_sub-from : goal.overflow_sub-from
overflow_sub-from c =
    let least = (times_at c.args.ops.now c.args.tape.now c.args.self.now c.args.turns c.requires.op c.requires.location).0 in
    omega (arith, least, c.from.ensures)

pub enter-requires : goal.enter-requires
enter-requires c = (times_at c.args.ops.now c.args.tape.now c.args.self.now c.args.turns c.requires.op c.requires.location).1

pub returns : goal.returns
returns c =
    let least = (times_at c.args.ops.now c.args.tape.now c.args.self.now c.args.turns c.requires.op c.requires.location).0 in
    let many : c.args.turns ≡ suc (c.from.result - 1) = omega (arith, least, c.from.ensures) in
    repeats c.args.ops.now c.args.tape.now c.args.self.now c.enter.new.self c.args.turns _ (c.from.result - 1) c.requires.op c.requires.location refl many (c.enter.ensures c.args.tape.now)
