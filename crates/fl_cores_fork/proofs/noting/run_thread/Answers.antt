use Rattle.std.proofs.Common.{rules, of_calls, subst}
use Rattle.fl_core_run.specs.declared.running.RunningCore.{RunningCore}
use Rattle.fl_history_sides.specs.declared.sides.HistorySides.{HistorySides}
use Rattle.fl_cores_fork.specs.CoreThreads.{noted_run, RanNoted}
use Rattle.fl_cores_fork.proofs.RanOver.{ran_to}
use Rattle.fl_cores_fork.proofs.noting.run_thread.Goals as goal

pub returns : goal.returns
returns g c =
    let left = c.replace_with-ended.new.dest in
    let came = c.in_ok-part.field-0 in
    let ran : RanNoted c.args.jobs.now c.args.limit c.args.core_thread.plan (noted_run c.deref_mut.result.now) c.args.core_thread.run_seat came.part
    (noted_run left) came.run_seat = search (rules, of_calls) in
    record {
      ran = ran_to c.args.jobs.now c.args.limit c.args.core_thread _
          (subst (λ (run : RunningCore HistorySides). RanNoted c.args.jobs.now c.args.limit c.args.core_thread.plan (noted_run run) c.args.core_thread.run_seat came.part
          (noted_run left) came.run_seat) c.deref_mut.ensures.value ran);
    }
