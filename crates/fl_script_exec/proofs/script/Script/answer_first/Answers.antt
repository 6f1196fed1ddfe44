use Rattle.fl_script_lines.specs.Items.{a_line}
use Rattle.fl_script_lines.specs.Reading.{command_by, line_with}
use Rattle.fl_script_exec.proofs.script.Script.answer_first.Goals as goal

pub returns-in-Ok-clause-ok : goal.returns-in-Ok-clause-ok
returns-in-Ok-clause-ok g c =
    (a_line (line_with (command_by c.in-Some.verb c.in-Some.rest.now)), c.in-Some.ensures.items, c.in-Ok.ensures.ok)

pub returns-in-Err-clause-left : goal.returns-in-Err-clause-left
returns-in-Err-clause-left g c =
    (a_line (line_with (command_by c.in-Some.verb c.in-Some.rest.now)), c.in-Some.behind.now, c.in-Some.ensures.items)
