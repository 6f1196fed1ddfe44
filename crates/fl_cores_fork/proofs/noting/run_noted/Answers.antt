use Rattle.fl_cores_fork.specs.CoreThreads.{noted_run, noting_run}
use Rattle.fl_cores_fork.proofs.RanOver.{ran_own}
use Rattle.fl_cores_fork.proofs.noting.run_noted.Goals as goal

pub returns-in-Ok : goal.returns-in-Ok
returns-in-Ok g c = record {
  ran = ran_own c.args.jobs.now c.args.limit c.args.plan.now (noted_run c.args.running) (noting_run c.over_noting-running.result)
      (noting_run c.run_over-ran.new.running) (noted_run c.over_own-running.result.0) c.args.run_seat c.run_over-ran.new.run_seat c.in-Ok.part
      c.over_noting-running.ensures.same c.over_own-running.ensures.same c.in-Ok.ensures.ran;
}
