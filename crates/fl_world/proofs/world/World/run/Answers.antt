use Rattle.std.proofs.Common.{refl}
use Rattle.fl_world.proofs.Runs.{whichever, run_begins, run_turn, run_ends, run_stops}
use Rattle.fl_world.proofs.world.World.run.Goals as goal

pub loop-event-init : goal.loop-event-init
loop-event-init c = λ s h. run_begins s c.args.events.now c.new-answers.result.items _ c.new-answers.ensures.items h

pub loop-event-preserved : goal.loop-event-preserved
loop-event-preserved c = λ s h.
    let i = c.loop-event.invariant s h in
    run_turn s c.args.events.now c.loop-event.event-index _ _ _ _ _ _ _ c.loop-event-test.true c.event-item.is c.in_ok-push.ensures.items i
    (c.in_ok-answer.ensures.agrees _ i.shown)

pub returns-clause-runs : goal.returns-clause-runs
returns-clause-runs c = λ s h. run_ends s c.args.events.now c.loop-event.event-index _ _ c.loop-event-test.false (c.loop-event.invariant s h)

pub returns-in_err-answer-clause-stops : goal.returns-in_err-answer-clause-stops
returns-in_err-answer-clause-stops c = whichever _ c.from_residual.result (λ s h.
    run_stops s c.args.events.now c.loop-event.event-index _ _ c.in_err-answer.ensures.kept (c.loop-event.invariant s h).shown)

pub returns-in_err-push-clause-stops : goal.returns-in_err-push-clause-stops
returns-in_err-push-clause-stops c = whichever _ c.from_residual-in_err-push.result (λ s h.
    let i = c.loop-event.invariant s h in
    let done = run_turn s c.args.events.now c.loop-event.event-index _ _ _ _ _ _ _ c.loop-event-test.true c.event-item.is refl i
    (c.in_ok-answer.ensures.agrees _ i.shown) in
    run_stops s c.args.events.now _ _ _ refl done.shown)
