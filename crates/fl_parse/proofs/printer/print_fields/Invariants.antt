use Rattle.std.proofs.Common.{◌≡◌, ◌++◌, map, drop}
use Rattle.std.specs.List.{flat_map}
use Rattle.fl_parse.specs.Tree.{field_of}
use Rattle.fl_parse.specs.Printed.{field_text}
use Rattle.fl_parse.proofs.printer.print_fields.Given as goal

abbrev pub invariant-loop-field : goal.invariant-loop-field
invariant-loop-field l =
    l.out.items ++ flat_map field_text (map field_of (drop l.field-index l.fields)) ≡ l.fn.out.items ++ flat_map field_text (map field_of l.fn.fields)
