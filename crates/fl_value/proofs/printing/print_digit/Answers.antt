use Rattle.std.proofs.Common.{ℕ, List, ◌++◌, ap, sym, ◌∙◌}
use Rattle.std.proofs.lemmas.Fmt.{decimal_digit}
use Rattle.fl_value.proofs.printing.print_digit.Goals as goal

pub returns-clause-printed : goal.returns-clause-printed
returns-clause-printed c = c.in_ok-push.ensures.items ∙ ap (λ (l : List ℕ). c.args.out.now.items ++ l) (sym (decimal_digit c.args.digit c.requires.below))
