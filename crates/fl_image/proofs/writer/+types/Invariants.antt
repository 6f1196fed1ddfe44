use Rattle.std.proofs.Common.{◌≡◌, ◌++◌, drop, map, length}
use Rattle.fl_interface.specs.Interface.{type_of, fields_from}
use Rattle.fl_image.specs.Image.{one, fields_image}
use Rattle.fl_image.proofs.writer.+types.Given as goal

abbrev pub invariant-put_structure-loop-field : goal.invariant-put_structure-loop-field
invariant-put_structure-loop-field l =
    l.out.items ++ fields_image (fields_from (map type_of (drop l.field-index l.fields))) ≡ l.fn.out.items ++ (one 17 ++ (one (length l.fields) ++ fields_image (fields_from (map type_of l.fields))))
