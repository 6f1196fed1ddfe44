use Rattle.std.proofs.Common.{◌∙◌, ap, sym, arith}
use Rattle.fl_stub_steps.specs.declared.step.StubStep.{StubStep}
use Rattle.fl_stub_steps.specs.Spreading.{copied}
use Rattle.fl_stub_steps.specs.Steps.{step_of, step_done}
use Rattle.fl_stub_steps.proofs.StepsPut.{joined_span}
use Rattle.fl_stub_steps.proofs.preparing.copying_first.Goals as goal

pub returns-in_ok-checked_add-in-Span : goal.returns-in_ok-checked_add-in-Span
returns-in_ok-checked_add-in-Span c = λ x.
    joined_span c.args.bytes c.in-Span.more c.in_ok-checked_add-in-Span.field-0 c.in-Span.zeros x (omega (arith, c.in_ok-checked_add-in-Span.ensures))
    ∙ ap (λ (s : StubStep). step_done (step_of s) (copied c.args.bytes x)) (sym c.in-Span.is)
