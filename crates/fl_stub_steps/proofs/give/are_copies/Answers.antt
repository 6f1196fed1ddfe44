use Rattle.std.proofs.Common.{rules}
use Rattle.fl_stub_steps.proofs.Plain.{more_all}
use Rattle.fl_stub_steps.proofs.give.are_copies.Goals as goal

pub loop-step-preserved : goal.loop-step-preserved
loop-step-preserved c =
    more_all c.args.steps.now c.loop-step.step-index c.step-item.result c.loop-step-test.true c.step-item.is c.loop-step.invariant
    (c.is_copy.ensures (search (rules, c.if-not-is_copy.false)))
