use Rattle.std.proofs.Common.{refl, sym, subst, ◌∙◌, arith}
use Rattle.fl_cores_table.specs.Seats.{TheCoresSeat}
use Rattle.fl_core_run.specs.Run.{run_by}
use Rattle.fl_core_run.specs.OpeningStatus.{AreWords}
use Rattle.fl_core_run.specs.Ran.{run_seat_of, task, moment}
use Rattle.fl_core_run.proofs.Stock.{seen_words, seen_quiet, quiet_then}
use Rattle.fl_core_run.proofs.Counted.{counted_turn, one_turn_more, at_limit, counted_finished, counted_unfinished, counted_told}
use Rattle.fl_core_run.proofs.Stopping.{on_err, stopped_counting}
use Rattle.fl_core_run.proofs.run.counted_turns.Goals as goal

pub loop-turns-preserved : goal.loop-turns-preserved
loop-turns-preserved g c =
    let w = g.S.CoreSides.ways in
    let t = task c.args.plan.now c.args.jobs.now c.args.limit in
    let first = moment (run_by g.S.CoreSides.states c.args.run.now) (run_seat_of c.args.run_seat.now) in
    let before = moment (run_by g.S.CoreSides.states c.loop-turns.run) (run_seat_of c.loop-turns.run_seat) in
    let few = c.if-load_ended-ge-STOP.false in
    let below = c.loop-turns-test.true in (
      one_turn_more w t first before _ c.loop-turns.turns c.loop-turns.invariant.0
          (counted_turn w t before c.take_stock.new.run_seat.words.items c.take_stock.new.run_seat.seat c.load_ended.new.self c.load_ended.result (run_by g.S.CoreSides.states c.turn.new.self)
          c.take_stock.ensures.exchanges (sym c.take_stock.ensures.finished ∙ c.if-take_stock.false) (omega (arith, few)) c.load_ended.ensures.seen c.in_ok-turn.ensures.turn),
      c.take_stock.ensures.as_many,
      subst (λ (s : TheCoresSeat). AreWords c.take_stock.new.run_seat.words.items s.knows) (sym c.load_ended.ensures.seen) (seen_words _ _ c.load_ended.result c.take_stock.ensures.may),
      quiet_then _ _ _ (quiet_then _ _ _ c.loop-turns.invariant.3 c.take_stock.ensures.seat) (seen_quiet c.take_stock.new.run_seat.seat c.load_ended.new.self c.load_ended.result c.load_ended.ensures.seen),
      omega (arith, below),
    )

pub returns-then-take_stock-clause-counted : goal.returns-then-take_stock-clause-counted
returns-then-take_stock-clause-counted g c =
    counted_finished g.S.CoreSides.ways (task c.args.plan.now c.args.jobs.now c.args.limit)
    (moment (run_by g.S.CoreSides.states c.args.run.now) (run_seat_of c.args.run_seat.now)) (run_by g.S.CoreSides.states c.loop-turns.run) (run_seat_of c.loop-turns.run_seat) c.loop-turns.turns
    c.take_stock.new.run_seat.words.items c.take_stock.new.run_seat.seat c.loop-turns.invariant.0 c.loop-turns.invariant.4 c.take_stock.ensures.exchanges
    (sym c.take_stock.ensures.finished ∙ c.if-take_stock.true) (quiet_then _ _ _ c.loop-turns.invariant.3 c.take_stock.ensures.seat)

pub returns-then-load_ended-ge-STOP-clause-counted : goal.returns-then-load_ended-ge-STOP-clause-counted
returns-then-load_ended-ge-STOP-clause-counted g c =
    let stop = c.if-load_ended-ge-STOP.true in
    counted_told g.S.CoreSides.ways (task c.args.plan.now c.args.jobs.now c.args.limit)
    (moment (run_by g.S.CoreSides.states c.args.run.now) (run_seat_of c.args.run_seat.now)) (run_by g.S.CoreSides.states c.loop-turns.run) (run_seat_of c.loop-turns.run_seat) c.loop-turns.turns
    c.take_stock.new.run_seat.words.items c.take_stock.new.run_seat.seat c.loop-turns.invariant.0 c.loop-turns.invariant.4 c.take_stock.ensures.exchanges
    c.load_ended.new.self c.load_ended.result (sym c.take_stock.ensures.finished ∙ c.if-take_stock.false) (omega (arith, stop)) c.load_ended.ensures.seen
    (quiet_then _ _ _ (quiet_then _ _ _ c.loop-turns.invariant.3 c.take_stock.ensures.seat) (seen_quiet c.take_stock.new.run_seat.seat c.load_ended.new.self c.load_ended.result c.load_ended.ensures.seen))

pub returns-then-take_stock-2-clause-counted : goal.returns-then-take_stock-2-clause-counted
returns-then-take_stock-2-clause-counted g c =
    let w = g.S.CoreSides.ways in
    let t = task c.args.plan.now c.args.jobs.now c.args.limit in
    let first = moment (run_by g.S.CoreSides.states c.args.run.now) (run_seat_of c.args.run_seat.now) in
    let past = c.loop-turns-test.false in
    counted_finished w t first (run_by g.S.CoreSides.states c.loop-turns.run) (run_seat_of c.loop-turns.run_seat) c.args.limit c.take_stock-2.new.run_seat.words.items c.take_stock-2.new.run_seat.seat
    (at_limit w t first _ c.loop-turns.turns c.args.limit c.loop-turns.invariant.0 c.loop-turns.invariant.4 (omega (arith, past))) (omega arith) c.take_stock-2.ensures.exchanges
    (sym c.take_stock-2.ensures.finished ∙ c.if-take_stock-2.true) (quiet_then _ _ _ c.loop-turns.invariant.3 c.take_stock-2.ensures.seat)

pub returns-clause-counted : goal.returns-clause-counted
returns-clause-counted g c =
    let w = g.S.CoreSides.ways in
    let t = task c.args.plan.now c.args.jobs.now c.args.limit in
    let first = moment (run_by g.S.CoreSides.states c.args.run.now) (run_seat_of c.args.run_seat.now) in
    let past = c.loop-turns-test.false in
    counted_unfinished w t first (run_by g.S.CoreSides.states c.loop-turns.run) (run_seat_of c.loop-turns.run_seat) c.args.limit c.take_stock-2.new.run_seat.words.items c.take_stock-2.new.run_seat.seat
    (at_limit w t first _ c.loop-turns.turns c.args.limit c.loop-turns.invariant.0 c.loop-turns.invariant.4 (omega (arith, past))) (omega arith) c.take_stock-2.ensures.exchanges
    (sym c.take_stock-2.ensures.finished ∙ c.if-take_stock-2.false) refl (quiet_then _ _ _ c.loop-turns.invariant.3 c.take_stock-2.ensures.seat)

pub returns-in_err-turn-clause-part : goal.returns-in_err-turn-clause-part
returns-in_err-turn-clause-part g c =
    on_err c.from_residual.result (
    stopped_counting g.S.CoreSides.ways (task c.args.plan.now c.args.jobs.now c.args.limit) c.loop-turns.turns
    (moment (run_by g.S.CoreSides.states c.args.run.now) (run_seat_of c.args.run_seat.now)) (moment (run_by g.S.CoreSides.states c.loop-turns.run) (run_seat_of c.loop-turns.run_seat)) (run_by g.S.CoreSides.states c.turn.new.self)
    c.loop-turns.invariant.0 c.in_err-turn.ensures.part
    )
