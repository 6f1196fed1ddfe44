use Rattle.std.proofs.Common.{refl}
use Rattle.fl_cores_jobs.specs.EndWork.{end_work_of}
use Rattle.fl_cores_jobs.specs.State.{with_due}
use Rattle.fl_cores_jobs.proofs.Lists.{map_put_or}
use Rattle.fl_cores_jobs.proofs.due.put_due.Goals as goal

pub returns : goal.returns
returns c = record {
  put = map_put_or end_work_of (with_due c.args.due) c.args.end_works.now.items c.args.slot c.index_mut-end_work.result.now _ c.requires.there c.index_mut-end_work.ensures.value refl;
}
