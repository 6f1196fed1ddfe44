use Rattle.fl_stub_steps.specs.declared.step.StubStep.TheVariants.{Span}
use Rattle.fl_stub_steps.specs.Spreading.{padded}
use Rattle.fl_stub_steps.proofs.StepsPut.{pushed, zeros_done}
use Rattle.fl_stub_steps.proofs.preparing.put_zeros.Goals as goal

pub returns : goal.returns
returns c = pushed c.args.steps.now.items c.push.new.self.items (Span 0 c.args.zeros) (padded c.args.zeros) c.in_ok-push.ensures.items (zeros_done c.args.zeros)
