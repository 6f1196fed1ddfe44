use Rattle.std.proofs.Common.{◌∙◌, ap}
use Rattle.std.proofs.lemmas.Result.{IfOk-from_err}
use Rattle.fl_cores_table.specs.Seats.{TheCoresSeat}
use Rattle.fl_core_run.specs.Run.{run_by}
use Rattle.fl_core_run.specs.Ran.{run_seat_of, task, moment}
use Rattle.fl_core_run.proofs.Counting.{ran_told, ran_unfinished, ran_finished}
use Rattle.fl_core_run.proofs.Stock.{may_finish}
use Rattle.fl_core_run.proofs.Stopping.{on_err, stopped_behind}
use Rattle.fl_core_run.proofs.run.run_through.Goals as goal

pub returns-in-Told-clause-ran : goal.returns-in-Told-clause-ran
returns-in-Told-clause-ran g c =
    ran_told g.S.CoreSides.ways (task c.args.plan.now c.args.jobs.now c.args.limit)
    (moment (run_by g.S.CoreSides.states c.args.run.now) (run_seat_of c.args.run_seat.now)) (moment (run_by g.S.CoreSides.states c.counted_turns.new.run) (run_seat_of c.counted_turns.new.run_seat))
    c.in_ok-part.part c.in_ok-part.ensures.counted c.in-Told.is

pub returns-in-Unfinished-clause-ran : goal.returns-in-Unfinished-clause-ran
returns-in-Unfinished-clause-ran g c =
    ran_unfinished g.S.CoreSides.ways (task c.args.plan.now c.args.jobs.now c.args.limit)
    (moment (run_by g.S.CoreSides.states c.args.run.now) (run_seat_of c.args.run_seat.now)) (moment (run_by g.S.CoreSides.states c.counted_turns.new.run) (run_seat_of c.counted_turns.new.run_seat))
    c.in_ok-part.part c.finish.new.self c.in_ok-part.ensures.counted c.in-Unfinished.is c.finish.ensures.told

pub returns-in_err-idle_turns-in-Finished-clause-part : goal.returns-in_err-idle_turns-in-Finished-clause-part
returns-in_err-idle_turns-in-Finished-clause-part g c =
    on_err c.from_residual-in_err-idle_turns-in-Finished.result (
    stopped_behind g.S.CoreSides.ways (task c.args.plan.now c.args.jobs.now c.args.limit)
    (moment (run_by g.S.CoreSides.states c.args.run.now) (run_seat_of c.args.run_seat.now)) (moment (run_by g.S.CoreSides.states c.counted_turns.new.run) (run_seat_of c.counted_turns.new.run_seat))
    c.in_ok-part.part (run_by g.S.CoreSides.states c.idle_turns.new.run) c.in_ok-part.ensures.counted c.in_err-idle_turns-in-Finished.ensures.part
    )

pub counted_turns-requires : goal.counted_turns-requires
counted_turns-requires g c = record { as_many = c.requires.as_many; may = c.requires.may }

pub returns-in_err-part : goal.returns-in_err-part
returns-in_err-part g c = record {
  ran = IfOk-from_err c.from_residual.result _ c.from_residual.ensures.0;
  part = on_err c.from_residual.result c.in_err-part.ensures.part;
  stopped = c.counted_turns.ensures.seat.stopped;
  seats = c.counted_turns.ensures.seat.seats;
}

pub returns-in_err-idle_turns-in-Finished-clause-ran : goal.returns-in_err-idle_turns-in-Finished-clause-ran
returns-in_err-idle_turns-in-Finished-clause-ran g c = IfOk-from_err c.from_residual-in_err-idle_turns-in-Finished.result _ c.from_residual-in_err-idle_turns-in-Finished.ensures.0

pub returns-in_err-idle_turns-in-Finished-clause-stopped : goal.returns-in_err-idle_turns-in-Finished-clause-stopped
returns-in_err-idle_turns-in-Finished-clause-stopped g c = c.idle_turns.ensures.seat.stopped ∙ (ap (λ (x : TheCoresSeat). x.knows.stopped) c.finish-in-Finished.ensures.told ∙ c.counted_turns.ensures.seat.stopped)

pub returns-in_ok-idle_turns-in-Finished-clause-stopped : goal.returns-in_ok-idle_turns-in-Finished-clause-stopped
returns-in_ok-idle_turns-in-Finished-clause-stopped g c = c.idle_turns.ensures.seat.stopped ∙ (ap (λ (x : TheCoresSeat). x.knows.stopped) c.finish-in-Finished.ensures.told ∙ c.counted_turns.ensures.seat.stopped)

pub returns-in-Told-clause-stopped : goal.returns-in-Told-clause-stopped
returns-in-Told-clause-stopped g c = c.counted_turns.ensures.seat.stopped

pub returns-in-Unfinished-clause-stopped : goal.returns-in-Unfinished-clause-stopped
returns-in-Unfinished-clause-stopped g c = ap (λ (x : TheCoresSeat). x.knows.stopped) c.finish.ensures.told ∙ c.counted_turns.ensures.seat.stopped

pub returns-in_err-idle_turns-in-Finished-clause-seats : goal.returns-in_err-idle_turns-in-Finished-clause-seats
returns-in_err-idle_turns-in-Finished-clause-seats g c = c.idle_turns.ensures.seat.seats ∙ (ap (λ (x : TheCoresSeat). x.knows.seats) c.finish-in-Finished.ensures.told ∙ c.counted_turns.ensures.seat.seats)

pub returns-in_ok-idle_turns-in-Finished-clause-seats : goal.returns-in_ok-idle_turns-in-Finished-clause-seats
returns-in_ok-idle_turns-in-Finished-clause-seats g c = c.idle_turns.ensures.seat.seats ∙ (ap (λ (x : TheCoresSeat). x.knows.seats) c.finish-in-Finished.ensures.told ∙ c.counted_turns.ensures.seat.seats)

pub returns-in-Told-clause-seats : goal.returns-in-Told-clause-seats
returns-in-Told-clause-seats g c = c.counted_turns.ensures.seat.seats

pub returns-in-Unfinished-clause-seats : goal.returns-in-Unfinished-clause-seats
returns-in-Unfinished-clause-seats g c = ap (λ (x : TheCoresSeat). x.knows.seats) c.finish.ensures.told ∙ c.counted_turns.ensures.seat.seats

pub returns-in_ok-idle_turns-in-Finished-clause-ran : goal.returns-in_ok-idle_turns-in-Finished-clause-ran
returns-in_ok-idle_turns-in-Finished-clause-ran g c =
    ran_finished g.S.CoreSides.ways (task c.args.plan.now c.args.jobs.now c.args.limit)
    (moment (run_by g.S.CoreSides.states c.args.run.now) (run_seat_of c.args.run_seat.now)) (moment (run_by g.S.CoreSides.states c.counted_turns.new.run) (run_seat_of c.counted_turns.new.run_seat))
    c.in_ok-part.part c.finish-in-Finished.new.self c.in_ok-part.ensures.counted (run_by g.S.CoreSides.states c.idle_turns.new.run) c.idle_turns.new.run_seat.words.items
    c.idle_turns.new.run_seat.seat c.in-Finished.is c.finish-in-Finished.ensures.told c.in_ok-idle_turns-in-Finished.ensures.turned c.idle_turns.ensures.seat
    c.idle_turns.ensures.stored c.idle_turns.ensures.heard c.in_ok-idle_turns-in-Finished.ensures.others

pub finish-requires : goal.finish-requires
finish-requires g c = record { once = may_finish c.args.run_seat.now.seat c.counted_turns.new.run_seat.seat c.counted_turns.ensures.seat c.requires.once }

pub finish-requires-in-Finished : goal.finish-requires-in-Finished
finish-requires-in-Finished g c = record { once = may_finish c.args.run_seat.now.seat c.counted_turns.new.run_seat.seat c.counted_turns.ensures.seat c.requires.once }
