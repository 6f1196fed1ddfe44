use Rattle.std.proofs.lemmas.Result.{err_from_is_err_and}
use Rattle.fl_image.specs.Reading.{op_at, many_at}
use Rattle.fl_image.proofs.Loop.{goes_on, ends, is_done}
use Rattle.fl_image.proofs.code.ops.Goals as goal

pub returns-in_err-op : goal.returns-in_err-op
returns-in_err-op c =
    let p = err_from_is_err_and c.from_residual.result c.from_residual.ensures.1 in
    record { reads = rw (p.1, p.2) (ends c.in_err-op.field-0.0 (λ before. op_at c.args.column) c.loop.found.items c.args.count c.loop.counter c.loop.rest.now (many_at (op_at c.args.column) c.args.count c.args.bytes.now) c.loop-test.true c.in_err-op.ensures.reads c.loop.invariant) }

pub loop-preserved : goal.loop-preserved
loop-preserved c =
    rw c.in_ok-push.ensures.items (goes_on (λ before. op_at c.args.column) c.loop.found.items c.args.count c.loop.counter c.loop.rest.now c.in_ok-op.op c.in_ok-op.after.now (many_at (op_at c.args.column) c.args.count c.args.bytes.now) c.loop-test.true c.in_ok-op.ensures.reads c.loop.invariant)

pub returns : goal.returns
returns c = record { reads = is_done (λ before. op_at c.args.column) c.loop.found.items c.args.count c.loop.counter c.loop.rest.now (many_at (op_at c.args.column) c.args.count c.args.bytes.now) c.loop-test.false c.loop.invariant }
