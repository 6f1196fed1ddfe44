use Rattle.std.proofs.Common.{◌≡◌, ◌<◌, ◌+◌, ℕ, refl, take, drop, length, get_or, sym, subst, arith}
use Rattle.fl_machine.specs.Taking.{AreWithin}
use Rattle.fl_machine.proofs.Spans.{bytes_more, wider, within_more}
use Rattle.fl_machine.proofs.intake.bounds_of.Goals as goal

pub loop-index-preserved : goal.loop-index-preserved
loop-index-preserved c =
    let few = c.loop-index-test.true in
    let inside = c.requires.inside in
    let x : ℕ = get_or c.args.buffer.now (c.args.from + c.loop-index.index) 0 in
    let small : x < 256 = omega arith in
    let long : length c.args.buffer.now ≡ 64 = omega arith in
    let there : c.args.from + c.loop-index.index < length c.args.buffer.now = omega (arith, few, inside, long) in
    let low = c.min-low.ensures in
    let high = c.max-high.ensures in
    let bytes = take c.loop-index.index (drop c.args.from c.args.buffer.now) in
    let others = wider c.loop-index.low c.loop-index.high c.min-low.result c.max-high.result bytes (omega (arith, low)) (omega (arith, high)) c.loop-index.invariant.1 in (
      omega (arith, few),
      subst (AreWithin c.min-low.result c.max-high.result) (sym (bytes_more c.args.buffer.now c.args.from c.loop-index.index x there refl))
          (within_more c.min-low.result c.max-high.result bytes x others small (omega (arith, low)) (omega (arith, high))),
    )
