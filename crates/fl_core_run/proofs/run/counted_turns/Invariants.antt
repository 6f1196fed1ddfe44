use Rattle.std.proofs.Common.{◌≡◌, ◌≤◌, length}
use Rattle.fl_core_run.specs.Run.{run_by}
use Rattle.fl_core_run.specs.Turn.{Swept}
use Rattle.fl_core_run.specs.OpeningStatus.{AreWords, SaidNothing}
use Rattle.fl_core_run.specs.Ran.{run_seat_of, task, moment, CountedTurn}
use Rattle.fl_core_run.proofs.run.counted_turns.Given as goal

abbrev pub invariant-loop-turns : goal.invariant-loop-turns
invariant-loop-turns g l =
    Swept (λ n. CountedTurn g.S.CoreSides.ways (task l.plan l.jobs l.limit)) l.turns
    (moment (run_by g.S.CoreSides.states l.initial.run) (run_seat_of l.initial.run_seat)) (moment (run_by g.S.CoreSides.states l.run) (run_seat_of l.run_seat))
    × (length l.run_seat.words.items ≡ length l.plan.ends.items) × AreWords l.run_seat.words.items l.run_seat.seat.knows
    × SaidNothing l.initial.run_seat.seat l.run_seat.seat × (l.turns ≤ l.limit)
