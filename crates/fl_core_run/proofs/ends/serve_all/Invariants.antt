use Rattle.fl_core_run.specs.Run.{run_by}
use Rattle.fl_core_run.specs.Steps.{Serves}
use Rattle.fl_core_run.specs.Turn.{Swept, At}
use Rattle.fl_core_run.proofs.ends.serve_all.Given as goal

abbrev pub invariant-loop-k : goal.invariant-loop-k
invariant-loop-k g l = Swept (At l.ends (Serves g.S.CoreSides.ways l.jobs)) l.k (run_by g.S.CoreSides.states l.initial.run) (run_by g.S.CoreSides.states l.run)
