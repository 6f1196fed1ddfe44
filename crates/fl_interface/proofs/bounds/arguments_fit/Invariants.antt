use Rattle.std.proofs.Common.{◌≡◌, map, drop}
use Rattle.std.specs.List.{list_all}
use Rattle.fl_interface.specs.Interface.{arg_type_of}
use Rattle.fl_interface.specs.Counts.{argument_words_fit}
use Rattle.fl_interface.proofs.bounds.arguments_fit.Given as goal

abbrev pub invariant-loop-ty : goal.invariant-loop-ty
invariant-loop-ty l = list_all argument_words_fit (map arg_type_of (drop l.ty-index l.types)) ≡ list_all argument_words_fit (map arg_type_of l.types)
