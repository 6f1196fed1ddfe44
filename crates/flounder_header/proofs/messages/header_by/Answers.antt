use Rattle.std.proofs.Common.{◌++◌, ◌∙◌, List, ℕ, ap, sym, subst}
use Rattle.std.specs.Prelude.{codes}
use Rattle.std.proofs.lemmas.Result.{IfOk-weaker}
use Rattle.fl_interface.specs.Interface.{interface_of}
use Rattle.flounder_header.specs.Header.{AreSections}
use Rattle.flounder_header.proofs.Sections.{prefaced}
use Rattle.flounder_header.proofs.messages.header_by.Goals as goal

pub returns : goal.returns
returns c =
    let plans = c.args.plans.now in
    let i = interface_of plans.interface in
    let sections = c.deref-3.result.now in
    let start = c.deref-2.ensures.value ∙ prefaced plans.plan i.name c.deref.result.now c.digit_of.result.now c.in_ok-start.start.items c.deref.ensures.value c.digit_of.ensures.digit c.in_ok-start.ensures.preface in
    record {
      header = IfOk-weaker c.joined.result _ _
          (λ text e. (
            sections,
            subst (AreSections plans.plan i 0 i.messages) (sym c.deref-3.ensures.value) c.in_ok-sections.ensures.sections,
            e ∙ ap (λ (z : List ℕ). z ++ (sections ++ codes "\n#endif\n")) start,
          ))
          c.joined.ensures.joined;
    }
