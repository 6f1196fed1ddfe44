use Rattle.fl_script_lines.proofs.GrammarLemmas.{one_line_is}
use Rattle.fl_script_lines.proofs.law.law_one_line.Goals as goal

pub returns : goal.returns
returns c = record { one = one_line_is }
