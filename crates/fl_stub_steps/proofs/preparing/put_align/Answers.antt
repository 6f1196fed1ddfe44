use Rattle.fl_stub_steps.specs.declared.step.StubStep.TheVariants.{Align}
use Rattle.fl_stub_steps.specs.Spreading.{aligned}
use Rattle.fl_stub_steps.proofs.StepsPut.{pushed, align_done}
use Rattle.fl_stub_steps.proofs.preparing.put_align.Goals as goal

pub returns : goal.returns
returns c = pushed c.args.steps.now.items c.push.new.self.items Align aligned c.in_ok-push.ensures.items align_done
