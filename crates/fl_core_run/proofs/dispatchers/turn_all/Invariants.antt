use Rattle.fl_core_run.specs.Run.{run_by}
use Rattle.fl_core_run.specs.Steps.{TakesTurn}
use Rattle.fl_core_run.specs.Turn.{Swept}
use Rattle.fl_core_run.proofs.dispatchers.turn_all.Given as goal

abbrev pub invariant-loop-dispatcher : goal.invariant-loop-dispatcher
invariant-loop-dispatcher g l = Swept (TakesTurn g.S.CoreSides.ways l.jobs) l.dispatcher (run_by g.S.CoreSides.states l.initial.run) (run_by g.S.CoreSides.states l.run)
