use Rattle.std.proofs.Common.{◌≡◌, ◌++◌, map, drop, codes}
use Rattle.std.specs.List.{flat_map}
use Rattle.fl_parse.specs.Tree.{directed_of}
use Rattle.fl_parse.specs.Printed.{directed_text, with_commas}
use Rattle.fl_parse.proofs.printer.print_all_directed.Given as goal

abbrev pub invariant-loop-argument : goal.invariant-loop-argument
invariant-loop-argument l =
    l.out.items ++ flat_map (λ y. codes "," ++ directed_text y) (map directed_of (drop l.argument-index l.others)) ≡ l.fn.out.items ++ with_commas directed_text (map directed_of l.fn.arguments)
