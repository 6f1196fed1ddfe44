use Rattle.std.proofs.Common.{◌≡◌}
use Rattle.fl_core_run.specs.Run.{run_by}
use Rattle.fl_core_run.specs.OpeningStatus.{SaidNothing}
use Rattle.fl_core_run.specs.Ran.{SomeTurns}
use Rattle.fl_core_run.proofs.run.idle_turns.Given as goal

abbrev pub invariant-loop : goal.invariant-loop
invariant-loop g l = (goal.iterator-loop g).can_next l.iterator' × (goal.iterator-loop g).is_finite l.iterator'
    × SomeTurns g.S.CoreSides.ways l.plan l.jobs (run_by g.S.CoreSides.states l.initial.run) (run_by g.S.CoreSides.states l.run)
    × SaidNothing l.initial.run_seat.seat l.run_seat.seat
    × (l.run_seat.seat.knows.stored ≡ l.initial.run_seat.seat.knows.stored) × (l.run_seat.seat.knows.heard ≡ l.initial.run_seat.seat.knows.heard)
