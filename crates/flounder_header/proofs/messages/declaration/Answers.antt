use Rattle.std.proofs.Common.{◌∙◌}
use Rattle.std.proofs.lemmas.Result.{IfOk-weaker}
use Rattle.flounder_header.proofs.Sections.{with_digits}
use Rattle.flounder_header.proofs.messages.declaration.Goals as goal

pub returns : goal.returns
returns c = record {
  declared = IfOk-weaker c.joined.result _ _
      (λ text e. with_digits c.args.name.now c.args.number c.args.most c.as_bytes-number.result.now c.as_bytes-most.result.now c.args.members.now text.items
      (c.as_bytes-number.ensures.value ∙ c.in_ok-digits.ensures.ok) (c.as_bytes-most.ensures.value ∙ c.in_ok-digits_of_most.ensures.ok) e)
      c.joined.ensures.joined;
}
