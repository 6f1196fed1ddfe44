use Rattle.std.proofs.Common.{sym, ◌∙◌}
use Rattle.fl_script_lines.proofs.Alone.{name_alone}
use Rattle.fl_script_lines.proofs.reader.one_name.Goals as goal

pub returns-then-is_name : goal.returns-then-is_name
returns-then-is_name c = record { same = sym (name_alone c.args.line.now (sym c.is_name.ensures.exact ∙ c.if-is_name.true)) }
