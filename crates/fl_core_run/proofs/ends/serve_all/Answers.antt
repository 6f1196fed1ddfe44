use Rattle.std.proofs.Common.{refl, length}
use Rattle.fl_base.specs.declared.identity.Side.TheVariants.{Client}
use Rattle.fl_core_run.specs.Run.{run_by}
use Rattle.fl_core_run.specs.Steps.{Serves}
use Rattle.fl_core_run.specs.Turn.{At}
use Rattle.fl_core_run.specs.Stops.{LeavesJob}
use Rattle.fl_core_run.proofs.Stopping.{on_err}
use Rattle.fl_core_run.proofs.Rows.{for_one_more, stopped_at, up_to}
use Rattle.fl_core_run.proofs.ends.serve_all.Goals as goal

pub loop-k-init : goal.loop-k-init
loop-k-init g c = refl

pub loop-k-preserved : goal.loop-k-preserved
loop-k-preserved g c = for_one_more c.args.ends.now c.loop-k.k _ (run_by g.S.CoreSides.states c.args.run.now) (run_by g.S.CoreSides.states c.loop-k.run) (run_by g.S.CoreSides.states c.write.new.run) c.loop-k-test.true (Serves g.S.CoreSides.ways c.args.jobs.now)
    c.loop-k.invariant (run_by g.S.CoreSides.states c.try_job.new.run, c.in_ok-place.ensures.tries, c.write.ensures.writes _ c.in_ok-place.ensures.place.is)

pub write-requires : goal.write-requires
write-requires g c = record { there = c.in_ok-place.ensures.place.within }

pub returns-in_err-place-clause-stops : goal.returns-in_err-place-clause-stops
returns-in_err-place-clause-stops g c = on_err c.from_residual.result
    (stopped_at c.args.ends.now c.loop-k.k (record { binding = 0; side = Client }) (run_by g.S.CoreSides.states c.args.run.now) (run_by g.S.CoreSides.states c.loop-k.run) (run_by g.S.CoreSides.states c.try_job.new.run) c.loop-k-test.true (Serves g.S.CoreSides.ways c.args.jobs.now) (LeavesJob c.args.jobs.now)
    c.loop-k.invariant (record { same = c.in_err-place.ensures.kept; does = c.in_err-place.ensures.does }))

pub returns-clause-serves : goal.returns-clause-serves
returns-clause-serves g c = up_to (At c.args.ends.now (Serves g.S.CoreSides.ways c.args.jobs.now)) c.loop-k.k (length c.args.ends.now) (run_by g.S.CoreSides.states c.args.run.now) (run_by g.S.CoreSides.states c.loop-k.run)
    c.loop-k.invariant c.loop-k.auto.k-end c.loop-k-test.false
