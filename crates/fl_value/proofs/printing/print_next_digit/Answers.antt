use Rattle.std.proofs.Common.{ℕ, List, ◌∷◌, ◌++◌, ap, sym}
use Rattle.std.proofs.lemmas.Fmt.{decimal_digit}
use Rattle.std.specs.Fmt.{decimal}
use Rattle.fl_value.proofs.Begun.{printed_at_once, begun_at_once}
use Rattle.fl_value.proofs.printing.print_next_digit.Goals as goal

pub returns-clause-printed : goal.returns-clause-printed
returns-clause-printed c =
    printed_at_once c.extend_from_slice.result c.args.out.now.items c.extend_from_slice.new.self.items _ (44 ∷ 32 ∷ decimal c.args.digit) c.extend_from_slice.ensures.items
    (ap (λ (l : List ℕ). c.args.out.now.items ++ 44 ∷ 32 ∷ l) (sym (decimal_digit c.args.digit c.requires.below)))

pub returns-clause-begun : goal.returns-clause-begun
returns-clause-begun c = begun_at_once c.extend_from_slice.result c.args.out.now.items c.extend_from_slice.new.self.items _ (44 ∷ 32 ∷ decimal c.args.digit) c.extend_from_slice.ensures.items
