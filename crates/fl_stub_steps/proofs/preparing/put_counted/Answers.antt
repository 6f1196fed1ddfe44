use Rattle.std.proofs.Common.{◌≡◌, ◌∙◌, ap, sym, List}
use Rattle.fl_stub_steps.specs.declared.step.StubStep.{StubStep}
use Rattle.fl_stub_steps.specs.declared.step.StubStep.TheVariants.{Each, Counted}
use Rattle.fl_stub_steps.specs.Spreading.{Spread, copied, repeated, length_at}
use Rattle.fl_stub_steps.specs.Steps.{done}
use Rattle.fl_stub_steps.proofs.StepsPut.{pushed, each_put, counted_put_in}
use Rattle.fl_stub_steps.proofs.preparing.put_counted.Goals as goal

pub returns-in_ok-push-in-Some : goal.returns-in_ok-push-in-Some
returns-in_ok-push-in-Some c =
    let told : (x : Spread) → done c.args.body.items x ≡ copied c.in-Some.bytes x = λ x. ap (λ (l : List StubStep). done l x) (sym c.deref.ensures.value) ∙ c.in-Some.ensures x in
    pushed c.args.steps.now.items c.push.new.self.items (Each c.in-Some.bytes) (λ x. repeated (done c.args.body.items) (length_at x.left) (copied 8 x))
    c.in_ok-push-in-Some.ensures.items (each_put c.args.body.items c.in-Some.bytes told)

pub returns-in_ok-push-in-None : goal.returns-in_ok-push-in-None
returns-in_ok-push-in-None c =
    pushed c.args.steps.now.items c.push-in-None.new.self.items (Counted c.args.body) (λ x. repeated (done c.args.body.items) (length_at x.left) (copied 8 x))
    c.in_ok-push-in-None.ensures.items (counted_put_in c.args.body)
