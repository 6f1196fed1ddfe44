use Rattle.std.proofs.Common.{◌≡◌, length, arith}
use Rattle.fl_machine.proofs.Intakes.{stance_depth}
use Rattle.fl_machine.proofs.Spans.{span}
use Rattle.fl_machine.proofs.intake.RecvCursor.take_bytes.Goals as goal

pub bytes_wanted-most-requires-clause-high : goal.bytes_wanted-most-requires-clause-high
bytes_wanted-most-requires-clause-high c = stance_depth c.args.ops.now c.args.self.now c.requires.stance

pub returns-clause-fed : goal.returns-clause-fed
returns-clause-fed c before all fed =
    let copied = c.copy_bytes-many.ensures in
    let some = copied.some in
    let inside = c.bytes_wanted-most.ensures.inside in
    let turns = c.bytes_wanted-most.ensures.turns in
    let whole : length c.args.buffer.now ≡ 64 = omega arith in
    span c.args.ops.now before c.args.tape.now c.copy_bytes-many.new.tape c.args.buffer.now all c.args.self.now c.pass_turns.new.self c.args.field c.args.used c.copy_bytes-many.result
    c.requires.field c.requires.run c.if-field-ne1.false c.if-many-eq0.false (omega (arith, some, turns)) (stance_depth c.args.ops.now c.args.self.now c.requires.stance) c.pass_turns.ensures.wide
    (omega (arith, some, inside)) whole copied.right c.pass_turns.ensures.passed copied.tape fed
