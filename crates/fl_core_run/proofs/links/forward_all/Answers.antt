use Rattle.std.proofs.Common.{refl, length}
use Rattle.fl_core_run.specs.Run.{run_by}
use Rattle.fl_core_run.specs.Steps.{Forwards}
use Rattle.fl_core_run.specs.Turn.{At}
use Rattle.fl_core_run.specs.Stops.{LeavesMessage}
use Rattle.fl_core_run.proofs.Stopping.{on_err}
use Rattle.fl_core_run.proofs.Rows.{for_one_more, stopped_at, up_to}
use Rattle.fl_core_run.proofs.links.forward_all.Goals as goal

pub loop-k-init : goal.loop-k-init
loop-k-init g c = refl

pub loop-k-preserved : goal.loop-k-preserved
loop-k-preserved g c = for_one_more c.args.links.now c.loop-k.k _ (run_by g.S.CoreSides.states c.args.run.now) (run_by g.S.CoreSides.states c.loop-k.run) (run_by g.S.CoreSides.states c.forward.new.run) c.loop-k-test.true (Forwards g.S.CoreSides.ways)
    c.loop-k.invariant c.in_ok-forward.ensures.forwards

pub returns-in_err-forward-clause-stops : goal.returns-in_err-forward-clause-stops
returns-in_err-forward-clause-stops g c = on_err c.from_residual.result
    (stopped_at c.args.links.now c.loop-k.k _ (run_by g.S.CoreSides.states c.args.run.now) (run_by g.S.CoreSides.states c.loop-k.run) (run_by g.S.CoreSides.states c.forward.new.run) c.loop-k-test.true (Forwards g.S.CoreSides.ways) (LeavesMessage g.S.CoreSides.ways)
    c.loop-k.invariant c.in_err-forward.ensures.left)

pub returns-clause-forwards : goal.returns-clause-forwards
returns-clause-forwards g c = up_to (At c.args.links.now (Forwards g.S.CoreSides.ways)) c.loop-k.k (length c.args.links.now) (run_by g.S.CoreSides.states c.args.run.now) (run_by g.S.CoreSides.states c.loop-k.run)
    c.loop-k.invariant c.loop-k.auto.k-end c.loop-k-test.false
