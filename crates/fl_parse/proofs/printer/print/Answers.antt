use Rattle.std.proofs.Common.{ℕ, List, ◌++◌, ap, ◌∙◌}
use Rattle.fl_parse.specs.Tree.{tree_of}
use Rattle.fl_parse.specs.Printed.{printed}
use Rattle.fl_parse.proofs.RoundTrip.{printed_again}
use Rattle.fl_parse.proofs.printer.print.Goals as goal

pub returns-clause-again : goal.returns-clause-again
returns-clause-again c =
    printed_again (tree_of c.args.tree.now) c.print_tree.new.out.items
    (c.in_ok-print_tree.ensures.printed ∙ ap (λ (z : List ℕ). z ++ printed (tree_of c.args.tree.now)) c.new-out.ensures.items)
