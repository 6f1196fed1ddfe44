use Rattle.std.proofs.Common.{◌≡◌, map, drop}
use Rattle.fl_interface.specs.Interface.{type_of, fields_from}
use Rattle.fl_interface.specs.Counts.{all_words_fit}
use Rattle.fl_interface.proofs.bounds.+words.Given as goal

abbrev pub invariant-fields_fit-loop-field : goal.invariant-fields_fit-loop-field
invariant-fields_fit-loop-field l =
    all_words_fit (fields_from (map type_of (drop l.field-index l.fields))) ≡ all_words_fit (fields_from (map type_of l.fields))
