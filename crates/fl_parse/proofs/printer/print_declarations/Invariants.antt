use Rattle.std.proofs.Common.{◌≡◌, ◌++◌, map, drop}
use Rattle.std.specs.List.{flat_map}
use Rattle.fl_parse.specs.Tree.{declaration_of}
use Rattle.fl_parse.specs.Printed.{declaration_text}
use Rattle.fl_parse.proofs.printer.print_declarations.Given as goal

abbrev pub invariant-loop-declaration : goal.invariant-loop-declaration
invariant-loop-declaration l =
    l.out.items ++ flat_map declaration_text (map declaration_of (drop l.declaration-index l.declarations)) ≡ l.fn.out.items ++ flat_map declaration_text (map declaration_of l.fn.declarations)
