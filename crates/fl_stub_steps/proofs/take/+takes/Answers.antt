use Rattle.std.proofs.Common.{◌∙◌, ap, List}
use Rattle.fl_stub_steps.specs.declared.step.StubStep.{StubStep}
use Rattle.fl_stub_steps.specs.Taking.{taken}
use Rattle.fl_stub_steps.specs.Spreading.{spread_of}
use Rattle.fl_stub_steps.proofs.StepsPut.{again}
use Rattle.fl_stub_steps.proofs.take.+takes.Goals as goal

pub take_step-loop-turn-preserved : goal.take_step-loop-turn-preserved
take_step-loop-turn-preserved t c =
    let now = spread_of c.loop-turn.tape.items c.loop-turn.left.now in
    again (taken c.in-Counted.steps.items) c.length_at-count-in-Counted.result c.loop-turn.turn now (spread_of c.take_steps.new.tape.items c.in_ok-left-in-Counted-2.left.now) _
    c.loop-turn-test.true (c.in_ok-left-in-Counted-2.ensures.taken ∙ ap (λ (l : List StubStep). taken l now) c.deref.ensures.value) c.loop-turn.invariant

pub take_step-loop-again-preserved : goal.take_step-loop-again-preserved
take_step-loop-again-preserved t c =
    let now = spread_of c.loop-again.tape.items c.loop-again.left.now in
    again (taken c.in-Times.steps.items) c.in-Times.turns c.loop-again.again now (spread_of c.take_steps-in-loop-again.new.tape.items c.in_ok-left-in-Times.left.now) _
    c.loop-again-test.true (c.in_ok-left-in-Times.ensures.taken ∙ ap (λ (l : List StubStep). taken l now) c.deref-in-loop-again.ensures.value) c.loop-again.invariant
