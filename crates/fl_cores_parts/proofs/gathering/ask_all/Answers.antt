use Rattle.fl_cores_parts.proofs.Together.{asks_one}
use Rattle.fl_cores_parts.proofs.gathering.ask_all.Goals as goal

pub loop-job-preserved : goal.loop-job-preserved
loop-job-preserved c =
    asks_one c.args.own.now.knows c.loop-job.own c.refusal.new.self c.loop-job.job c.refusal.result c.loop-job.invariant c.requires.all c.refusal.ensures.heard
    c.refusal.ensures.agrees c.refusal.ensures.exact
