use Rattle.std.proofs.Common.{◌∙◌, ap, List}
use Rattle.fl_stub_steps.specs.declared.step.StubStep.{StubStep}
use Rattle.fl_stub_steps.specs.Steps.{done}
use Rattle.fl_stub_steps.specs.Spreading.{spread_of}
use Rattle.fl_stub_steps.proofs.StepsPut.{again}
use Rattle.fl_stub_steps.proofs.give.+steps.Goals as goal

pub give_step-loop-turn-preserved : goal.give_step-loop-turn-preserved
give_step-loop-turn-preserved t c =
    let now = spread_of c.loop-turn.out.items c.loop-turn.left.now in
    again (done c.in-Counted.steps.items) c.length_at-count-in-Counted.result c.loop-turn.turn now (spread_of c.give_steps.new.out.items c.in_ok-left-in-Counted-2.left.now) _
    c.loop-turn-test.true (c.in_ok-left-in-Counted-2.ensures.done ∙ ap (λ (l : List StubStep). done l now) c.deref.ensures.value) c.loop-turn.invariant

pub give_step-loop-again-preserved : goal.give_step-loop-again-preserved
give_step-loop-again-preserved t c =
    let now = spread_of c.loop-again.out.items c.loop-again.left.now in
    again (done c.in-Times.steps.items) c.in-Times.turns c.loop-again.again now (spread_of c.give_steps-in-loop-again.new.out.items c.in_ok-left-in-Times.left.now) _
    c.loop-again-test.true (c.in_ok-left-in-Times.ensures.done ∙ ap (λ (l : List StubStep). done l now) c.deref-in-loop-again.ensures.value) c.loop-again.invariant
