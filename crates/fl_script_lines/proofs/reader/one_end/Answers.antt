use Rattle.std.proofs.Common.{sym}
use Rattle.fl_script_lines.specs.Views.{end_name_of}
use Rattle.fl_script_lines.proofs.Alone.{end_alone}
use Rattle.fl_script_lines.proofs.reader.one_end.Goals as goal

pub returns-in-Some : goal.returns-in-Some
returns-in-Some c = record { same = sym (end_alone c.args.line.now (end_name_of c.in-Some.end) (sym c.in-Some.ensures.same)) }
