use Rattle.std.proofs.Common.{◌<◌, ◌^◌, length-set, get_or, ◌∙◌, arith}
use Rattle.fl_base.specs.Numbered.{core_id}
use Rattle.fl_monitor.proofs.Numbers.{next_core}
use Rattle.fl_monitor.proofs.tape.route.Goals as goal

pub overflow_cast-cores : goal.overflow_cast-cores
overflow_cast-cores c =
    let small : get_or c.args.numbers.now c.loop-place.place 0 < 2 ^ 8 = c.requires.small c.loop-place.place 0 c.loop-place-test.true in
    omega (arith, small)

pub loop-place-preserved : goal.loop-place-preserved
loop-place-preserved c = record {
  same = next_core c.loop-place.cores c.args.numbers.now c.loop-place.place (omega (arith, c.loop-place.invariant.long, c.requires.few, c.loop-place-test.true)) c.loop-place-test.true
      c.loop-place.invariant.same;
  long = length-set c.loop-place.cores c.loop-place.place (core_id (get_or c.args.numbers.now c.loop-place.place 0)) ∙ c.loop-place.invariant.long;
}
