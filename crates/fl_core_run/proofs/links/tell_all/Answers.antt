use Rattle.std.proofs.Common.{refl, length}
use Rattle.fl_core_run.specs.Run.{run_by}
use Rattle.fl_core_run.specs.Steps.{Tells}
use Rattle.fl_core_run.specs.Turn.{At}
use Rattle.fl_core_run.proofs.Rows.{for_one_more, up_to}
use Rattle.fl_core_run.proofs.links.tell_all.Goals as goal

pub loop-k-init : goal.loop-k-init
loop-k-init g c = refl

pub loop-k-preserved : goal.loop-k-preserved
loop-k-preserved g c = for_one_more c.args.links.now c.loop-k.k _ (run_by g.S.CoreSides.states c.args.run.now) (run_by g.S.CoreSides.states c.loop-k.run) (run_by g.S.CoreSides.states c.tell.new.run) c.loop-k-test.true (Tells g.S.CoreSides.ways)
    c.loop-k.invariant c.tell.ensures.tells

pub returns : goal.returns
returns g c = record {
  tells = up_to (At c.args.links.now (Tells g.S.CoreSides.ways)) c.loop-k.k (length c.args.links.now) (run_by g.S.CoreSides.states c.args.run.now) (run_by g.S.CoreSides.states c.loop-k.run)
      c.loop-k.invariant c.loop-k.auto.k-end c.loop-k-test.false;
}
