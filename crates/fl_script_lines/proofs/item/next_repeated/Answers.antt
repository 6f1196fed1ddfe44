use Rattle.fl_script_lines.specs.Reading.{command_by}
use Rattle.fl_script_lines.proofs.ItemLemmas.{line_of_words}
use Rattle.fl_script_lines.proofs.item.next_repeated.Goals as goal

pub returns-in-Some-clause-items : goal.returns-in-Some-clause-items
returns-in-Some-clause-items c =
    line_of_words c.args.bytes.now c.next_line.result.0.now c.without_end.result.now c.next_line.result.1.now
    (command_by c.in-Some.verb c.in-Some.rest.now) c.next_line.ensures.lines c.without_end.ensures.text c.in-Some.ensures.told
