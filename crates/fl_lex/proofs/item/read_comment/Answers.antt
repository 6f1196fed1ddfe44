use Rattle.std.proofs.Common.{refl, sym, ◌∙◌}
use Rattle.fl_lex.proofs.Cuts.{line_cuts, block_cuts, block_open}
use Rattle.fl_lex.proofs.item.read_comment.Goals as goal

pub returns-in-Some-eq47 : goal.returns-in-Some-eq47
returns-in-Some-eq47 c =
    let second = c.in-Some-eq47.ensures.lookup.3 in
    record { found = line_cuts _ _ c.requires second.0 (sym (second.1 0) ∙ c.in-Some-eq47.field-0-test) _ c.after.ensures.rest c.line_len.ensures.count }

pub returns-in-Some : goal.returns-in-Some
returns-in-Some c =
    let second = c.in-Some-eq42.ensures.lookup.3 in
    record { found = block_cuts _ _ c.requires second.0 (sym (second.1 0) ∙ c.in-Some-eq42.field-0-test) _ c.after-in-Some-eq42.ensures.rest c.in-Some.ensures.none }

pub returns-in-None : goal.returns-in-None
returns-in-None c =
    let second = c.in-Some-eq42.ensures.lookup.3 in
    record { found = (refl, block_open _ c.requires second.0 (sym (second.1 0) ∙ c.in-Some-eq42.field-0-test) _ c.after-in-Some-eq42.ensures.rest c.in-None.ensures.none) }
