use Rattle.std.proofs.Common.{◌≡◌, drop, map}
use Rattle.std.specs.List.{list_all}
use Rattle.fl_interface.specs.Interface.{arg_type_of}
use Rattle.fl_image.specs.Image.{argument_has_short_enums}
use Rattle.fl_image.proofs.writable.arguments_have_short_enums.Given as goal

abbrev pub invariant-loop-argument : goal.invariant-loop-argument
invariant-loop-argument l = list_all argument_has_short_enums (map arg_type_of (drop l.argument-index l.arguments)) ≡ list_all argument_has_short_enums (map arg_type_of l.arguments)
