use Rattle.std.proofs.Common.{◌∙◌}
use Rattle.std.proofs.lemmas.Result.{IfOk-weaker}
use Rattle.flounder_header.proofs.Sections.{three}
use Rattle.flounder_header.proofs.messages.spell.Goals as goal

pub returns : goal.returns
returns c = record {
  spelled = IfOk-weaker c.joined.result _ _
      (λ text e. three c.deref.result.now c.deref-2.result.now c.deref-3.result.now _ _ _ text.items (c.deref.ensures.value ∙ c.in_ok-declaration.ensures.declared)
      (c.deref-2.ensures.value ∙ c.in_ok-put.ensures.put) (c.deref-3.ensures.value ∙ c.in_ok-get.ensures.got) e)
      c.joined.ensures.joined;
}
