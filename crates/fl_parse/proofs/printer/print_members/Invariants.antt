use Rattle.std.proofs.Common.{◌≡◌, ◌++◌, map, drop, codes}
use Rattle.std.specs.List.{flat_map}
use Rattle.fl_parse.specs.Tree.{name_of}
use Rattle.fl_parse.specs.Printed.{name_text, with_commas}
use Rattle.fl_parse.proofs.printer.print_members.Given as goal

abbrev pub invariant-loop-member : goal.invariant-loop-member
invariant-loop-member l =
    l.out.items ++ flat_map (λ y. codes "," ++ name_text y) (map name_of (drop l.member-index l.others)) ≡ l.fn.out.items ++ with_commas name_text (map name_of l.fn.members)
