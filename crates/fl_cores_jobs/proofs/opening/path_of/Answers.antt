use Rattle.std.proofs.Common.{◌≤◌, length-set, get_or, ◌∙◌, arith}
use Rattle.fl_base.specs.Numbered.{core_id}
use Rattle.fl_cores_jobs.proofs.AskedFor.{path_small, next_id}
use Rattle.fl_cores_jobs.proofs.opening.path_of.Goals as goal

pub overflow_cast-ids : goal.overflow_cast-ids
overflow_cast-ids c =
    let small : get_or c.args.cores.now c.loop-place.place 0 ≤ 255 = path_small c.args.cores.now c.requires.path c.loop-place.place c.loop-place-test.true in
    omega (arith, small)

pub loop-place-preserved : goal.loop-place-preserved
loop-place-preserved c = record {
  same = next_id c.loop-place.ids c.args.cores.now c.loop-place.place (omega (arith, c.loop-place.invariant.long, c.requires.few, c.loop-place-test.true)) c.loop-place-test.true
      c.loop-place.invariant.same;
  long = length-set c.loop-place.ids c.loop-place.place (core_id (get_or c.args.cores.now c.loop-place.place 0)) ∙ c.loop-place.invariant.long;
}
