use Rattle.std.proofs.Common.{◌≡◌, ◌∙◌, ap, sym, List, arith}
use Rattle.std.proofs.lemmas.Result.{on_ok_weaker}
use Rattle.fl_stub_steps.specs.declared.step.StubStep.{StubStep}
use Rattle.fl_stub_steps.specs.declared.step.StubStep.TheVariants.{Times}
use Rattle.fl_stub_steps.specs.Spreading.{Spread, copied, repeated}
use Rattle.fl_stub_steps.specs.Steps.{done}
use Rattle.fl_stub_steps.proofs.StepsPut.{pushed, copies_put, times_put_in}
use Rattle.fl_stub_steps.proofs.preparing.put_times.Goals as goal

pub returns-in-Some-checked_mul : goal.returns-in-Some-checked_mul
returns-in-Some-checked_mul c =
    let told : (x : Spread) → done c.args.body.items x ≡ copied c.in-Some.bytes x = λ x. ap (λ (l : List StubStep). done l x) (sym c.deref.ensures.value) ∙ c.in-Some.ensures x in
    let all = copies_put c.args.body.items c.in-Some.bytes c.args.turns c.in-Some-checked_mul.all told (omega (arith, c.in-Some-checked_mul.ensures)) in
    on_ok_weaker c.put_copy.result (λ put x. put x ∙ ap (λ (y : Spread). done c.args.steps.now.items y) (all x)) c.put_copy.ensures

pub returns : goal.returns
returns c = pushed c.args.steps.now.items c.push.new.self.items (Times c.args.turns c.args.body) (repeated (done c.args.body.items) c.args.turns) c.in_ok-push.ensures.items (times_put_in c.args.turns c.args.body)
