use Rattle.fl_script_lines.specs.Views.{part_of}
use Rattle.fl_script_exec.proofs.script.Script.answer_part.Goals as goal

pub returns-in-Ok-clause-ok : goal.returns-in-Ok-clause-ok
returns-in-Ok-clause-ok g c = (part_of c.next_part.result.0, c.next_part.ensures.items, c.in-Ok.ensures.ok)

pub returns-in-Err-clause-left : goal.returns-in-Err-clause-left
returns-in-Err-clause-left g c = (part_of c.next_part.result.0, c.next_part.result.1.now, c.next_part.ensures.items)
