use Rattle.std.proofs.Common.{◌≡◌, true}
use Rattle.fl_core_run.specs.Run.{run_by}
use Rattle.fl_core_run.specs.Finished.{all_done}
use Rattle.fl_core_run.proofs.finish.is_finished.Given as goal

abbrev pub invariant-loop-k : goal.invariant-loop-k
invariant-loop-k g l = all_done (run_by g.S.CoreSides.states l.run) l.ends l.words l.k ≡ true
