use Rattle.std.proofs.Common.{refl}
use Rattle.fl_cores_jobs.specs.EndWork.{end_work_of}
use Rattle.fl_cores_jobs.specs.State.{with_calls}
use Rattle.fl_cores_jobs.proofs.Lists.{map_put_or}
use Rattle.fl_cores_jobs.proofs.joining.mark_calls.Goals as goal

pub returns : goal.returns
returns c = record {
  marked = map_put_or end_work_of with_calls c.args.end_works.now.items c.args.slot c.index_mut-end_work.result.now _ c.requires.there c.index_mut-end_work.ensures.value refl;
}
