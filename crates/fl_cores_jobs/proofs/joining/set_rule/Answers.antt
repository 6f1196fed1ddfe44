use Rattle.std.proofs.lemmas.Result.{on_ok_weaker}
use Rattle.fl_cores_jobs.proofs.Setting.{set_at}
use Rattle.fl_cores_jobs.proofs.joining.set_rule.Goals as goal

pub returns : goal.returns
returns c = record {
  set = on_ok_weaker c.set_rule.result
      (λ r. set_at c.args.end_works.now.items c.args.end c.args.msg.0 c.args.answer.0 c.slot_of.result c.index_mut-end_work.result.now c.set_rule.new.self
      c.slot_of.ensures.slot c.requires.there c.index_mut-end_work.ensures.value r)
      c.set_rule.ensures.set;
}
