use Rattle.std.proofs.Common.{◌<◌, ℕ, sym, subst}
use Rattle.fl_core_run.specs.Run.{run_by}
use Rattle.fl_core_run.proofs.Stock.{left_there, one_more_done}
use Rattle.fl_core_run.proofs.finish.is_finished.Goals as goal

pub returns-then-not-is_done_at : goal.returns-then-not-is_done_at
returns-then-not-is_done_at g c = record {
  finished = sym (left_there (run_by g.S.CoreSides.states c.args.run.now) c.args.ends.now c.args.words.now c.loop-k.k _ _ c.loop-k-test.true
      (subst (λ (n : ℕ). c.loop-k.k < n) (sym c.requires) c.loop-k-test.true) (sym c.if-not-is_done_at.ensures.done));
}

pub loop-k-preserved : goal.loop-k-preserved
loop-k-preserved g c = one_more_done (run_by g.S.CoreSides.states c.args.run.now) c.args.ends.now c.args.words.now c.loop-k.k _ _ c.loop-k-test.true
    (subst (λ (n : ℕ). c.loop-k.k < n) (sym c.requires) c.loop-k-test.true) c.loop-k.invariant (sym c.if-not-is_done_at.ensures.done)
