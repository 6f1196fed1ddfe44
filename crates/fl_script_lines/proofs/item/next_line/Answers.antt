use Rattle.std.proofs.Common.{add-one}
use Rattle.fl_script_lines.proofs.ItemLemmas.{line_found, none_found, line_rest}
use Rattle.fl_script_lines.proofs.item.next_line.Goals as goal

pub returns-in-Some-clause-lines : goal.returns-in-Some-clause-lines
returns-in-Some-clause-lines c =
    rw (c.split_at.ensures.front, c.split_at.ensures.back, add-one) (line_found c.in-Some.at c.args.bytes.now c.in-Some.ensures.first)

pub returns-in-None-clause-lines : goal.returns-in-None-clause-lines
returns-in-None-clause-lines c =
    line_rest c.args.bytes.now c.split_at-in-None.result.0.now c.split_at-in-None.result.1.now c.split_at-in-None.ensures.front c.split_at-in-None.ensures.back
    c.requires (none_found c.args.bytes.now c.in-None.ensures.first)
