use Rattle.std.proofs.Common.{sym, subst}
use Rattle.fl_script_lines.specs.Grammar.{Line, LineIs}
use Rattle.fl_script_lines.proofs.GrammarLemmas.{line_is_read}
use Rattle.fl_script_lines.proofs.reader.open_line.Goals as goal

pub returns : goal.returns
returns c = record { line = subst (λ (x : Line). LineIs c.args.line.now x) (sym c.read_opening.ensures.same) (line_is_read c.args.line.now) }
