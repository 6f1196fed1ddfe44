use Rattle.fl_stub_steps.specs.declared.step.StubStep.TheVariants.{Span}
use Rattle.fl_stub_steps.specs.Spreading.{copied}
use Rattle.fl_stub_steps.proofs.StepsPut.{span_done, replaced, put_back}
use Rattle.fl_stub_steps.proofs.preparing.put_copy.Goals as goal

pub returns-in_ok-push-in-Some-copying_first : goal.returns-in_ok-push-in-Some-copying_first
returns-in_ok-push-in-Some-copying_first c =
    replaced c.args.steps.now.items c.pop.new.self.items c.push-in-Some-copying_first.new.self.items c.in-Some.first c.in-Some-copying_first.both (copied c.args.bytes)
    c.in-Some.ensures.items c.in_ok-push-in-Some-copying_first.ensures.items c.in-Some-copying_first.ensures

pub returns-in_ok-push-in-None-2 : goal.returns-in_ok-push-in-None-2
returns-in_ok-push-in-None-2 c =
    put_back c.args.steps.now.items c.pop.new.self.items c.push-in-None.new.self.items c.push-in-None-2.new.self.items c.in-Some.first (Span c.args.bytes 0) (copied c.args.bytes)
    c.in-Some.ensures.items c.in_ok-push-in-None.ensures.items c.in_ok-push-in-None-2.ensures.items (span_done c.args.bytes)
