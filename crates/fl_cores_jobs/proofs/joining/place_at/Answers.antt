use Rattle.std.proofs.lemmas.Result.{on_ok_weaker}
use Rattle.fl_cores_jobs.specs.EndWork.{end_work_of, with_place}
use Rattle.fl_cores_jobs.proofs.Lists.{map_put_or}
use Rattle.fl_cores_jobs.proofs.joining.place_at.Goals as goal

pub returns : goal.returns
returns c = record {
  placed = on_ok_weaker c.place.result
      (λ e. map_put_or end_work_of (with_place c.args.place) c.args.end_works.now.items c.args.slot c.index_mut-end_work.result.now c.place.new.self
      c.requires.there c.index_mut-end_work.ensures.value e)
      c.place.ensures.placed;
}
