use Rattle.std.proofs.Common.{◌≡◌, ◌++◌, map, drop, codes}
use Rattle.std.specs.List.{flat_map}
use Rattle.fl_parse.specs.Tree.{argument_of}
use Rattle.fl_parse.specs.Printed.{argument_text, with_commas}
use Rattle.fl_parse.proofs.printer.print_arguments.Given as goal

abbrev pub invariant-loop-argument : goal.invariant-loop-argument
invariant-loop-argument l =
    l.out.items ++ flat_map (λ y. codes "," ++ argument_text y) (map argument_of (drop l.argument-index l.others)) ≡ l.fn.out.items ++ with_commas argument_text (map argument_of l.fn.arguments)
