use Rattle.std.proofs.Common.{[], ◌∷◌}
use Rattle.fl_script_lines.proofs.ItemLemmas.{ends_nowhere, other_text}
use Rattle.fl_script_lines.proofs.item.ends_block.Goals as goal

pub returns-clause-no : goal.returns-clause-no
returns-clause-no c = λ f.
    ends_nowhere c.args.line.now c.without_end.result.now c.without_end.ensures.text
    (other_text c.eq.result c.without_end.result.now c.as_slice.result.now (46 ∷ []) c.eq.ensures c.as_slice.ensures f)
