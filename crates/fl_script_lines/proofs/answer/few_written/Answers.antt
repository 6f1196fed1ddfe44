use Rattle.std.proofs.Common.{refl}
use Rattle.std.proofs.lemmas.Fmt.{decimal_digit}
use Rattle.fl_script_lines.proofs.answer.few_written.Goals as goal

pub returns : goal.returns
returns c = record { text = rw (decimal_digit c.args.k c.requires.first, decimal_digit c.args.n c.requires.all) refl }
