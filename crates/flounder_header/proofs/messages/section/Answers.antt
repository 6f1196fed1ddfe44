use Rattle.std.proofs.Common.{◌++◌, ◌∷◌, [], ◌∙◌, List, ℕ, ap}
use Rattle.std.proofs.lemmas.Result.{IfOk-weaker}
use Rattle.flounder_header.proofs.Sections.{declared}
use Rattle.flounder_header.proofs.messages.section.Goals as goal

pub returns : goal.returns
returns c =
    let interface = c.args.plans.now.interface.name.bytes.items in
    let message = c.deref-2.result.now in
    let name = c.deref-6.ensures.value
    ∙ (c.in_ok-name.ensures.joined
    ∙ (ap (λ (z : List ℕ). z ++ 95 ∷ (message ++ [])) c.deref.ensures.value ∙ ap (λ (z : List ℕ). interface ++ 95 ∷ (z ++ [])) c.deref-2.ensures.value)) in
    record {
      section = IfOk-weaker c.spell.result _ _ (λ text e. declared _ _ _ _ _ _ _ _ _ _ c.tape_capacity-most.ensures.greatest name e) c.spell.ensures.spelled;
    }
