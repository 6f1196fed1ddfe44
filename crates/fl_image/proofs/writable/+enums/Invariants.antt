use Rattle.std.proofs.Common.{◌≡◌, drop, map}
use Rattle.fl_interface.specs.Interface.{type_of, fields_from}
use Rattle.fl_image.specs.Image.{have_short_enums}
use Rattle.fl_image.proofs.writable.+enums.Given as goal

abbrev pub invariant-have_short_enums-loop-field : goal.invariant-have_short_enums-loop-field
invariant-have_short_enums-loop-field l = have_short_enums (fields_from (map type_of (drop l.field-index l.fields))) ≡ have_short_enums (fields_from (map type_of l.fields))
