use Rattle.std.proofs.Common.{take, drop, arith}
use Rattle.fl_machine.proofs.Spans.{wider}
use Rattle.fl_machine.proofs.intake.copy_span.Goals as goal

pub returns-clause-right : goal.returns-clause-right
returns-clause-right c =
    let low = c.from-low.ensures in
    let high = c.from-high.ensures in
    let under = c.if-low-field.false in
    let over = c.if-high-field.false in
    wider c.bounds_of-low.result.0 c.bounds_of-low.result.1 c.args.field.least c.args.field.last (take c.args.most (drop c.args.from c.args.buffer.now)) (omega (arith, low, under)) (omega (arith, high, over))
    c.bounds_of-low.ensures.within
